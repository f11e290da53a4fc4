-- A numeral is how its number is spelled.
use Rattle.std.proofs.Common.{◌≡◌, ℕ, ◌^◌, ◌<◌, ◌≤◌, true, false, cond, not, ◌&&◌, eqb, ltb, leb, List, length, get_or, Ok, Err, decimal, Result, sym, ap, ◌∙◌, subst, ⊎_elim, arith, rules, MatchResult}
use Rattle.std.specs.Str.{all_ascii_digits}
use Rattle.std.proofs.lemmas.Str.Parse.{IsNumeralModel, numerals_by_fold}
use Rattle.std.proofs.lemmas.Fmt.{decimal_from_appends, length-decimal-le, digits_decimal, digits_value-decimal, decimal_nonempty, first_decimal, decimal_digit, decimal-digits_value}
use Rattle.std.proofs.lemmas.Bool.{and_parts, and_from, and_left, and_right, cases_Bool, cases_lt, ne_eqb, lt-ltb, le-ltb, ltb-true, le-leb, leb-true, leb-false, cond-true, cond-false, not_from_false}
use Rattle.std.proofs.lemmas.Bool.Decides.{nat_tests}
use Rattle.text.specs.declared.fault.Cause.{Cause}
use Rattle.text.specs.declared.fault.Cause.TheVariants.{Digits, Size}
use Rattle.text.specs.Numerals.{read_on, value, numeral, number_up_to, digits_by, spelled, Spelled, WrongNumber}

own : IsNumeralModel (λ ds. all_ascii_digits ds ≡ true) (read_on 0)
own = numerals_by_fold _ (search rules) read_on (search rules)

pub spelled_is : (n : ℕ) → n < 2 ^ 32 → spelled n ≡ decimal n
unfolding spelled
spelled_is n h = decimal_from_appends digits_by (search rules) 10 n (omega arith) (length-decimal-le 10 n (omega arith) (omega arith) (omega arith))

numeral_decimal : (n : ℕ) → n < 2 ^ 32 → numeral (decimal n) ≡ true
numeral_decimal n h =
    let some = decimal_nonempty n (omega arith) in
    let digits = digits_decimal own n (omega arith) in
    let lead : (eqb (get_or (decimal n) 0 0) 48 && ltb 1 (length (decimal n))) ≡ false =
    ⊎_elim
    (λ small. and_right (eqb (get_or (decimal n) 0 0) 48) (ltb 1 (length (decimal n))) (le-ltb 1 (length (decimal n)) (omega (arith, ap length (decimal_digit n small)))))
    (λ big. and_left (eqb (get_or (decimal n) 0 0) 48) (ltb 1 (length (decimal n))) (ne_eqb (get_or (decimal n) 0 0) 48 (λ e. omega (arith, first_decimal n (omega arith) (omega arith)))))
    (cases_lt n 10)
    in
    and_from (ltb 0 (length (decimal n))) _ (lt-ltb 0 (length (decimal n)) some) (and_from (not (eqb (get_or (decimal n) 0 0) 48 && ltb 1 (length (decimal n)))) (all_ascii_digits (decimal n)) (not_from_false _ lead) digits)

pub number_reads : (limit n : ℕ) → n ≤ limit → n < 2 ^ 32 → number_up_to limit (spelled n) ≡ Ok n
number_reads limit n le h =
    let is = digits_value-decimal own n (omega arith) in
    rw (spelled_is n h)
    (cond-true (numeral (decimal n)) _ _ (numeral_decimal n h)
    ∙ cond-true (leb (value (decimal n)) limit) (Ok (value (decimal n))) (Err Size) (le-leb (value (decimal n)) limit (omega (arith, is)))
    ∙ ap Ok is)

-- two results that are not equal
apart : {X : Type 0} (c : Cause) (n : X) → Err c ≡ Ok n → ⊥
apart c n e = let z : ◌≡◌ {A = ℕ} 0 1 = cc in omega arith

-- what a numeral that was read is
module _ (limit n : ℕ) (field : List ℕ) (limited : limit < 2 ^ 32) (e : number_up_to limit field ≡ Ok n) where
  read_small : numeral field ≡ true → leb (value field) limit ≡ true → Spelled limit field n
  read_small t l =
      let is : value field ≡ n =
      let both : Ok (value field) ≡ Ok n = sym (cond-true (numeral field) _ _ t ∙ cond-true (leb (value field) limit) _ _ l) ∙ e in
      cc
      in
      let le = leb-true (value field) limit l in
      let parts = and_parts (ltb 0 (length field)) (not (eqb (get_or field 0 0) 48 && ltb 1 (length field)) && all_ascii_digits field) t in
      let more = and_parts (not (eqb (get_or field 0 0) 48 && ltb 1 (length field))) (all_ascii_digits field) parts.1 in
      let some = ltb-true 0 (length field) parts.0 in
      let lead : get_or field 0 0 ≡ 48 → length field ≡ 1 = λ z. grind (arith, nat_tests) in
      let digits : decimal (value field) ≡ field = decimal-digits_value own field more.1 some lead (omega arith) in
      record { small = omega arith; digits = sym digits ∙ ap decimal is ∙ sym (spelled_is n (omega arith)) }

  pub number_read : Spelled limit field n
  number_read =
      ⊎_elim
      (λ t. ⊎_elim (read_small t) (λ f. absurd (apart Size n (sym (cond-true (numeral field) _ _ t ∙ cond-false (leb (value field) limit) _ _ f) ∙ e))) (cases_Bool (leb (value field) limit)))
      (λ f. absurd (apart Digits n (sym (cond-false (numeral field) _ _ f) ∙ e)))
      (cases_Bool (numeral field))

same_cause : {X : Type 0} (c d : Cause) → ◌≡◌ {A = Result X Cause} (Err c) (Err d) → c ≡ d
same_cause c d e = cc

-- why no number was read
pub number_wrong : (limit : ℕ) (field : List ℕ) (c : Cause) → number_up_to limit field ≡ Err c → WrongNumber limit field c
number_wrong limit field c e =
    ⊎_elim
    (λ t. ⊎_elim
    (λ l. absurd (apart c (value field) (sym e ∙ cond-true (numeral field) _ _ t ∙ cond-true (leb (value field) limit) (Ok (value field)) (Err Size) l)))
    (λ g. subst (WrongNumber limit field) (same_cause Size c (sym (cond-true (numeral field) _ _ t ∙ cond-false (leb (value field) limit) (Ok (value field)) (Err Size) g) ∙ e)) (t, leb-false (value field) limit g))
    (cases_Bool (leb (value field) limit)))
    (λ f. subst (WrongNumber limit field) (same_cause Digits c (sym (cond-false (numeral field) (cond (leb (value field) limit) (Ok (value field)) (Err Size)) (Err Digits) f) ∙ e)) f)
    (cases_Bool (numeral field))

pub number_cases : (limit : ℕ) (field : List ℕ) (r : Result ℕ Cause) → limit < 2 ^ 32 → r ≡ number_up_to limit field → MatchResult r (λ n. Spelled limit field n) (λ c. WrongNumber limit field c)
number_cases limit field (Ok n) h e = number_read limit n field h (sym e)
number_cases limit field (Err c) h e = number_wrong limit field c (sym e)
