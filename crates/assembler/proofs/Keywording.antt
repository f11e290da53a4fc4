-- The keywords as a table: what is found there, and tests of the whole of it.
use Rattle.std.proofs.Common.{◌≡◌, ℕ, Bool, true, false, not, List, Some, None, Ok, Err, codes, Option, Result, sym, refl, ap, ◌∙◌, ⊎_elim, arith}
use Rattle.std.specs.Str.{bytes_eq}
use Rattle.std.proofs.lemmas.Slice.Eq.{bytes_eq-Decides}
use Rattle.std.proofs.lemmas.Bool.{cases_Bool, cond-true, cond-false, not-true}
use Rattle.text.specs.declared.fault.Cause.{Cause}
use Rattle.text.specs.declared.fault.Cause.TheVariants.{Spelling}
use Rattle.u5.specs.declared.operation.Operation.{Operation}
use Rattle.u5.specs.Operations.{named, every}
use Rattle.u5.specs.Operations as operations
use Rattle.u5.proofs.Tables.{each_operation, named_spelling, named_is}
use Rattle.assembler.specs.declared.keyword.Keyword.{Keyword}
use Rattle.assembler.specs.declared.keyword.Keyword.TheVariants.{Of, Word}
use Rattle.assembler.specs.Keywords.{spelling, operation_of, keyword_of}

-- a test that every keyword passes
pub record Passes (test : Keyword → Bool) : Type 0 where
  pub word : test Word ≡ true
  pub operations : (o : Operation) → test (Of o) ≡ true

pub each_keyword : (test : Keyword → Bool) → Passes test → (k : Keyword) → test k ≡ true
each_keyword test p (Of o) = p.operations o
each_keyword test p Word = p.word

not_word : (o : Operation) → bytes_eq (operations.spelling o) (codes "WORD") ≡ false
unfolding every
not_word o = not-true (bytes_eq (operations.spelling o) (codes "WORD")) (each_operation (λ p. not (bytes_eq (operations.spelling p) (codes "WORD"))) refl refl o)

pub keyword_spelling : (k : Keyword) → keyword_of (spelling k) ≡ Ok k
keyword_spelling (Of o) = cond-false (bytes_eq (operations.spelling o) (codes "WORD")) (Ok Word) (operation_of (named (operations.spelling o))) (not_word o) ∙ ap operation_of (named_spelling o)
keyword_spelling Word = refl

apart : {X : Type 0} (c : Cause) (x : X) → Err c ≡ Ok x → ⊥
apart c x e = let z : ◌≡◌ {A = ℕ} 0 1 = cc in omega arith

operation_is : (field : List ℕ) (o : Option Operation) (k : Keyword) → named field ≡ o → operation_of o ≡ Ok k → field ≡ spelling k
operation_is field (Some o) k n e = let is : Of o ≡ k = cc in named_is field o n ∙ ap spelling is
operation_is field None k n e = absurd (apart Spelling k e)

pub keyword_is : (field : List ℕ) (k : Keyword) → keyword_of field ≡ Ok k → field ≡ spelling k
keyword_is field k e =
    ⊎_elim
    (λ t. let same : Ok Word ≡ Ok k = sym (cond-true (bytes_eq field (codes "WORD")) (Ok Word) (operation_of (named field)) t) ∙ e in let is : Word ≡ k = cc in (bytes_eq-Decides field (codes "WORD")).0 t ∙ ap spelling is)
    (λ f. operation_is field (named field) k refl (sym (cond-false (bytes_eq field (codes "WORD")) (Ok Word) (operation_of (named field)) f) ∙ e))
    (cases_Bool (bytes_eq field (codes "WORD")))

-- a field that is read as no keyword spells none, and the cause is SPELLING
pub none_spelled : (field : List ℕ) (c : Cause) → keyword_of field ≡ Err c → (k : Keyword) → field ≡ spelling k → ⊥
none_spelled field c e k is = apart c k (sym e ∙ ap keyword_of is ∙ keyword_spelling k)

operation_cause : (o : Option Operation) (c : Cause) → operation_of o ≡ Err c → c ≡ Spelling
operation_cause (Some o) c e = absurd (apart c (Of o) (sym e))
operation_cause None c e = cc

pub keyword_cause : (field : List ℕ) (c : Cause) → keyword_of field ≡ Err c → c ≡ Spelling
keyword_cause field c e =
    ⊎_elim
    (λ t. absurd (apart c Word (sym e ∙ cond-true (bytes_eq field (codes "WORD")) (Ok Word) (operation_of (named field)) t)))
    (λ f. operation_cause (named field) c (sym (cond-false (bytes_eq field (codes "WORD")) (Ok Word) (operation_of (named field)) f) ∙ e))
    (cases_Bool (bytes_eq field (codes "WORD")))

no_keyword_at : (field : List ℕ) (r : Result Keyword Cause) → keyword_of field ≡ r → ((k : Keyword) → field ≡ spelling k → ⊥) → r ≡ Err Spelling
no_keyword_at field (Ok k) e h = absurd (h k (keyword_is field k e))
no_keyword_at field (Err c) e h = ap Err (keyword_cause field c e)

pub no_keyword : (field : List ℕ) → ((k : Keyword) → field ≡ spelling k → ⊥) → keyword_of field ≡ Err Spelling
no_keyword field h = no_keyword_at field (keyword_of field) refl h
