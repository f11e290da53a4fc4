-- A search through a table, turn by turn, and what it finds.
use Rattle.std.proofs.Common.{◌≡◌, ℕ, zero, suc, ◌+◌, ◌<◌, ◌≤◌, Bool, true, false, cond, ◌&&◌, List, [], ◌∷◌, length, get_or, drop, Some, None, Option, sym, refl, ap, ◌∙◌, subst, ⊎_elim, arith, MatchOption}
use Rattle.std.proofs.lemmas.List.{at_drop_more, drop_all}
use Rattle.std.proofs.lemmas.Bool.{cond-true, cond-false, cases_Bool, and_parts}
use Rattle.std.proofs.lemmas.Bool.Decides.{not_from_Decides}
use Rattle.std.proofs.lemmas.Slice.Eq.{bytes_eq-Decides}
use Rattle.std.proofs.lemmas.Option.{none-some, same_Some}
use Rattle.std.proofs.lemmas.List.FromFn.{get_or-range_with_len}
use Rattle.std.specs.List.{range_with_len, AllByRecursion, find}
use Rattle.std.specs.Option.{option_map}
use Rattle.std.specs.Str.{bytes_eq}
use Rattle.u5.specs.declared.operand.Register.{Register}
use Rattle.u5.specs.declared.operation.Operation.{Operation}
use Rattle.u5.specs.declared.operation.Operation.TheVariants.{LoadB, LoadH, LoadW, StoreB, StoreH, StoreW, Add, Mul, Div, Nor, MovI, CMov, In, Out, Read, Write, Halt}
use Rattle.u5.specs.Tables.{called}
use Rattle.u5.specs.Operations.{spelling, every, named}
use Rattle.u5.specs.Registers.{alias, numbers, aliased}

-- what is found in a list passes the test
pub found_passes : {X : Type 0} (test : X → Bool) (xs : List X) (x : X) → find test xs ≡ Some x → test x ≡ true
found_passes test [] x e = absurd (none-some x e)
found_passes test (y ∷ ys) x e =
    ⊎_elim
    (λ t. ap test (same_Some x y (sym e ∙ cond-true (test y) _ _ t)) ∙ t)
    (λ f. found_passes test ys x (sym (cond-false (test y) _ _ f) ∙ e))
    (cases_Bool (test y))

-- what is found in a list is one of it
pub found_each : {X : Type 0} (test : X → Bool) (P : X → Type 0) (xs : List X) (x : X) → AllByRecursion P xs → find test xs ≡ Some x → P x
found_each test P [] x all e = absurd (none-some x e)
found_each test P (y ∷ ys) x (p, all) e =
    ⊎_elim
    (λ t. subst P (same_Some y x (sym (cond-true (test y) _ _ t) ∙ e)) p)
    (λ f. found_each test P ys x all (sym (cond-false (test y) _ _ f) ∙ e))
    (cases_Bool (test y))

head_fails : {X : Type 0} (test : X → Bool) (x : X) (xs : List X) → find test (x ∷ xs) ≡ None → test x ≡ false
head_fails test x xs e = ⊎_elim (λ t. absurd (none-some x (sym e ∙ cond-true (test x) _ _ t))) (λ f. f) (cases_Bool (test x))

-- where nothing is found, nothing in the list passes
pub none_passes : {X : Type 0} (test : X → Bool) (xs : List X) (d : X) → find test xs ≡ None → (k : ℕ) → k < length xs → test (get_or xs k d) ≡ false
none_passes test [] d e k h = absurd (omega arith)
none_passes test (x ∷ xs) d e zero h = head_fails test x xs e
none_passes test (x ∷ xs) d e (suc k) h = none_passes test xs d (sym (cond-false (test x) _ _ (head_fails test x xs e)) ∙ e) k (omega arith)

-- what is found by a name goes by it
pub called_is : {X : Type 0} (name : X → List ℕ) (field : List ℕ) (xs : List X) (x : X) → called name field xs ≡ Some x → field ≡ name x
called_is name field xs x e = (bytes_eq-Decides field (name x)).0 (found_passes (λ y. bytes_eq field (name y)) xs x e)

not_true : (b : Bool) → (b ≡ true → ⊥) → b ≡ false
not_true true h = absurd (h refl)
not_true false h = refl

-- one turn of a search by a name
module _ {X : Type 0} (name : X → List ℕ) (field : List ℕ) (xs : List X) (i : ℕ) (d : X) where
  here : i < length xs → called name field (drop i xs) ≡ cond (bytes_eq field (name (get_or xs i d))) (Some (get_or xs i d)) (called name field (drop (i + 1) xs))
  here h = at_drop_more (called name field) xs i d h

  pub called_found : i < length xs → field ≡ name (get_or xs i d) → called name field (drop i xs) ≡ Some (get_or xs i d)
  called_found h e = here h ∙ cond-true (bytes_eq field (name (get_or xs i d))) _ _ ((bytes_eq-Decides field (name (get_or xs i d))).1 e)

  pub called_passed : i < length xs → (field ≡ name (get_or xs i d) → ⊥) → called name field (drop i xs) ≡ called name field (drop (i + 1) xs)
  called_passed h e = here h ∙ cond-false (bytes_eq field (name (get_or xs i d))) _ _ (not_true _ (λ t. e ((bytes_eq-Decides field (name (get_or xs i d))).0 t)))

  pub called_none : length xs ≤ i → called name field (drop i xs) ≡ None
  called_none h = ap (called name field) (drop_all i xs h)

-- operations

pub named_spelling : (o : Operation) → named (spelling o) ≡ Some o
unfolding every
named_spelling LoadB = refl
named_spelling LoadH = refl
named_spelling LoadW = refl
named_spelling StoreB = refl
named_spelling StoreH = refl
named_spelling StoreW = refl
named_spelling Add = refl
named_spelling Mul = refl
named_spelling Div = refl
named_spelling Nor = refl
named_spelling MovI = refl
named_spelling CMov = refl
named_spelling In = refl
named_spelling Out = refl
named_spelling Read = refl
named_spelling Write = refl
named_spelling Halt = refl

pub named_is : (field : List ℕ) (o : Operation) → named field ≡ Some o → field ≡ spelling o
named_is field o e = called_is spelling field every o e

pub none_named : (field : List ℕ) → named field ≡ None → (o : Operation) → field ≡ spelling o → ⊥
none_named field e o is = none-some o (sym e ∙ ap named is ∙ named_spelling o)

pub named_cases : (field : List ℕ) (r : Option Operation) → r ≡ named field → MatchOption r ((o : Operation) → field ≡ spelling o → ⊥) (λ o. field ≡ spelling o)
named_cases field (Some o) e = named_is field o (sym e)
named_cases field None e = none_named field (sym e)

-- registers

at_number : (n : ℕ) → n < 64 → get_or numbers n 0 ≡ n
unfolding numbers
at_number n h = let is = get_or-range_with_len 0 64 n 0 h in omega arith

all_numbers : length numbers ≡ 64
unfolding numbers
all_numbers = refl

each_below : (a n : ℕ) → a + n ≤ 64 → AllByRecursion (λ m. m < 64) (range_with_len a n)
each_below a zero h = tt
each_below a (suc n) h = (omega arith, each_below (a + 1) n (omega arith))

numbers_below : AllByRecursion (λ m. m < 64) numbers
unfolding numbers
numbers_below = each_below 0 64 (omega arith)

pub none_aliased : (field : List ℕ) → aliased field ≡ None → (n : ℕ) → n < 64 → field ≡ alias n → ⊥
none_aliased field e n h is =
    let fails = none_passes (λ m. bytes_eq field (alias m)) numbers 0 e n (omega (arith, all_numbers)) in
    not_from_Decides _ (bytes_eq-Decides field (alias (get_or numbers n 0))) fails (is ∙ ap alias (sym (at_number n h)))

pub aliased_is : (field : List ℕ) (n : ℕ) → aliased field ≡ Some n → (n < 64) × (field ≡ alias n)
aliased_is field n e = (found_each (λ m. bytes_eq field (alias m)) (λ m. m < 64) numbers n numbers_below e, called_is alias field numbers n e)

pub aliased_cases : (field : List ℕ) (r : Option Register) → option_map (λ g. g.number) r ≡ aliased field → MatchOption r ((g : Register) → field ≡ alias g.number → ⊥) (λ g. field ≡ alias g.number)
aliased_cases field (Some g) e = (aliased_is field g.number (sym e)).1
aliased_cases field None e = λ g. none_aliased field (sym e) g.number g.below

-- a test of the whole table holds at each operation

abbrev pub all : {X : Type 0} → (X → Bool) → List X → Bool
all test [] = true
all test (x ∷ xs) = test x && all test xs

all_at : {X : Type 0} (test : X → Bool) (xs : List X) (d : X) → test d ≡ true → all test xs ≡ true → (k : ℕ) → test (get_or xs k d) ≡ true
all_at test [] d h a k = h
all_at test (x ∷ xs) d h a zero = (and_parts (test x) (all test xs) a).0
all_at test (x ∷ xs) d h a (suc k) = all_at test xs d h (and_parts (test x) (all test xs) a).1 k

index : Operation → ℕ
index LoadB = 0
index LoadH = 1
index LoadW = 2
index StoreB = 3
index StoreH = 4
index StoreW = 5
index Add = 6
index Mul = 7
index Div = 8
index Nor = 9
index MovI = 10
index CMov = 11
index In = 12
index Out = 13
index Read = 14
index Write = 15
index Halt = 16

at_index : (o : Operation) → get_or every (index o) LoadB ≡ o
unfolding every index
at_index LoadB = refl
at_index LoadH = refl
at_index LoadW = refl
at_index StoreB = refl
at_index StoreH = refl
at_index StoreW = refl
at_index Add = refl
at_index Mul = refl
at_index Div = refl
at_index Nor = refl
at_index MovI = refl
at_index CMov = refl
at_index In = refl
at_index Out = refl
at_index Read = refl
at_index Write = refl
at_index Halt = refl

pub each_operation : (test : Operation → Bool) → test LoadB ≡ true → all test every ≡ true → (o : Operation) → test o ≡ true
each_operation test first h o = subst (λ op. test op ≡ true) (at_index o) (all_at test every LoadB first h (index o))
