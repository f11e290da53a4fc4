-- The machine alone, over a list of input: its steps, that they are determined, and that more input changes nothing of them.
use Rattle.std.proofs.Common.{◌≡◌, ℕ, zero, suc, ◌<◌, ◌≤◌, List, [], ◌∷◌, ◌++◌, set, Some, None, Option, sym, refl, ap, ◌∙◌, subst, append_assoc, append-nil, arith}
use native.Mathlib.Decide.{le_ind, dec_lt}
use Rattle.processor.specs.declared.ending.Ending.{Ending}
use Rattle.processor.specs.declared.ending.Ending.TheVariants.{Halt}
use Rattle.processor.specs.Machine.{Processor, Action, ends, goes, takes, prints, writes, halts}
use Rattle.processor.specs.Effects.{action}
use Rattle.station.specs.Histories.{Begins}

pub record State : Type 0 where
  pub processor : Processor
  pub sectors : List (List ℕ)
  pub feed : List ℕ
  pub output : List ℕ
  pub halted : Option Ending

abbrev pub at : Processor → List (List ℕ) → List ℕ → List ℕ → Option Ending → State
at p ss i o h = record { processor = p; sectors = ss; feed = i; output = o; halted = h }

abbrev pub turn : Option Ending → Action → List (List ℕ) → List ℕ → List ℕ → Option State
turn (Some e) a ss i o = None
turn None (ends e) ss i o = None
turn None (goes p) ss i o = Some (at p ss i o None)
turn None (takes f) ss [] o = None
turn None (takes f) ss (b ∷ i) o = Some (at (f b) ss i o None)
turn None (prints b p) ss i o = Some (at p ss i (o ++ (b ∷ [])) None)
turn None (writes s block p) ss i o = Some (at p (set ss s block) i o None)
turn None (halts p) ss i o = Some (at p ss i o (Some Halt))

-- more input behind a state's
abbrev pub more_fed : List ℕ → State → State
more_fed r s = at s.processor s.sectors (s.feed ++ r) s.output s.halted

abbrev more_fed' : List ℕ → Option State → Option State
more_fed' r None = None
more_fed' r (Some s) = Some (more_fed r s)

abbrev output_of : State → Option State → List ℕ
output_of d None = d.output
output_of d (Some s) = s.output

never : {A : Type 0} {B : Type 0} {x : A} → None ≡ Some x → B
never {A} {x = x} e = let z : ◌≡◌ {A = ℕ} 0 1 = cc in absurd (omega arith)

turn_more : (h : Option Ending) (a : Action) (ss : List (List ℕ)) (i o r : List ℕ) (q : State) → turn h a ss i o ≡ Some q → turn h a ss (i ++ r) o ≡ Some (more_fed r q)
turn_more (Some e) a ss i o r q is = never is
turn_more None (ends e) ss i o r q is = never is
turn_more None (goes p) ss i o r q is = ap (more_fed' r) is
turn_more None (takes f) ss [] o r q is = never is
turn_more None (takes f) ss (b ∷ i) o r q is = ap (more_fed' r) is
turn_more None (prints b p) ss i o r q is = ap (more_fed' r) is
turn_more None (writes s block p) ss i o r q is = ap (more_fed' r) is
turn_more None (halts p) ss i o r q is = ap (more_fed' r) is

turn_prints : (h : Option Ending) (a : Action) (ss : List (List ℕ)) (i o : List ℕ) (q : State) → turn h a ss i o ≡ Some q → Begins o q.output
turn_prints (Some e) a ss i o q is = never is
turn_prints None (ends e) ss i o q is = never is
turn_prints None (goes p) ss i o q is = ([], sym (ap (output_of q) is) ∙ sym (append-nil o))
turn_prints None (takes f) ss [] o q is = never is
turn_prints None (takes f) ss (b ∷ i) o q is = ([], sym (ap (output_of q) is) ∙ sym (append-nil o))
turn_prints None (prints b p) ss i o q is = (b ∷ [], sym (ap (output_of q) is))
turn_prints None (writes s block p) ss i o q is = ([], sym (ap (output_of q) is) ∙ sym (append-nil o))
turn_prints None (halts p) ss i o q is = ([], sym (ap (output_of q) is) ∙ sym (append-nil o))

prefix_trans : (xs ys zs : List ℕ) → Begins xs ys → Begins ys zs → Begins xs zs
prefix_trans xs ys zs (r, p) (s, q) = (r ++ s, q ∙ ap (λ (l : List ℕ). l ++ s) p ∙ append_assoc xs r s)

abbrev pub next : State → Option State
next s = turn s.halted (action s.processor s.sectors) s.sectors s.feed s.output

-- the state after so many executed steps
pub data After (s : State) : ℕ → State → Type 0 where
  begun : After s zero s
  then : {n : ℕ} {p q : State} → After s n p → next p ≡ Some q → After s (suc n) q

pub after_more : {s : State} (r : List ℕ) {n : ℕ} {p : State} → After s n p → After (more_fed r s) n (more_fed r p)
after_more r begun = begun
after_more r (then {p = p} {q = q} a is) = then (after_more r a) (turn_more p.halted (action p.processor p.sectors) p.sectors p.feed p.output r q is)

pub same : {s : State} {n : ℕ} {p q : State} → After s n p → After s n q → p ≡ q
same begun begun = refl
same (then a is) (then b is') = let e = same a b in cc

-- a state that was passed on the way to q
record Passed (s : State) (n : ℕ) (q : State) : Type 0 where
  passed : State
  reached : After s n passed
  prints_less : Begins passed.output q.output

trim_step : {s : State} {n m : ℕ} → ((q : State) → After s m q → Passed s n q) → (q : State) → After s (suc m) q → Passed s n q
trim_step ih q (then {p = p} a is) =
    let way = ih p a in
    record {
      passed = way.passed;
      reached = way.reached;
      prints_less =
          prefix_trans way.passed.output p.output q.output way.prints_less
          (turn_prints p.halted (action p.processor p.sectors) p.sectors p.feed p.output q is);
    }

trim : {s : State} (n m : ℕ) → n ≤ m → (q : State) → After s m q → Passed s n q
trim {s} n m le =
    le_ind (λ k. (q : State) → After s k q → Passed s n q)
    (λ q a. record { passed = q; reached = a; prints_less = ([], sym (append-nil q.output)) })
    (λ k _ ih. trim_step ih) m le

pub prefix : {s : State} {n m : ℕ} {p q : State} → After s n p → After s m q → n ≤ m → Begins p.output q.output
prefix {s} {n} {m} {p} {q} a b le =
    let way = trim n m le q b in
    subst (λ (x : State). Begins x.output q.output) (same way.reached a) way.prints_less

past : {s : State} {n : ℕ} {p q : State} → next p ≡ None → After s n p → After s (suc n) q → ⊥
past stuck a (then b is) = let e = same a b in never (sym stuck ∙ ap next e ∙ is)

-- past a state with no next there is none
pub last : {s : State} {n m : ℕ} {p q : State} → next p ≡ None → After s n p → After s m q → m ≤ n
last {s} {n} {m} {p} {q} stuck a b = go (dec_lt n m)
  where
    go : Dec (n < m) → m ≤ n
    go (yes lt) = absurd (past stuck a (trim (suc n) m lt q b).reached)
    go (no not) = omega arith
