-- What a change of the table does to the disk that the overlay is.
use Rattle.std.proofs.Common.{◌≡◌, ℕ, ◌-◌, ◌<◌, true, false, eqb, ◌≢◌, List, [], length, get_or, set, Ok, Err, Result, sym, refl, ap, ◌∙◌, subst, inl, inr, ⊎_elim, arith}
use Rattle.std.proofs.lemmas.List.{same_lists, get_or_default, length-set, get_or-set_same, get_or-set_other}
use Rattle.std.proofs.lemmas.Bool.{eq-eqb, ne_eqb, cond-true, cond-false, cases_eq, cases_Bool}
use Rattle.disk.specs.declared.NoSuchSector.{NoSuchSector}
use Rattle.disk.specs.declared.WriteRefusal.{WriteRefusal}
use Rattle.disk.specs.declared.WriteRefusal.TheVariants as refusal
use Rattle.std.specs.Result.{MatchResult}
use Rattle.disk.specs.Disks.{Written, Reads, Writes}
use Rattle.overlay.specs.declared.entry.Entry.{Entry}
use Rattle.overlay.specs.declared.kept.Full.{Full}
use Rattle.overlay.specs.Entries.{holds, looked_up, upsert, Has, Lacks, Keeps}
use Rattle.overlay.specs.Layers.{laid, overlaid, starting}
use Rattle.overlay.specs.WholeLayers.{laid_length, laid_at}
use Rattle.overlay.proofs.Lookups.{looked_up_upsert, length_upsert}

-- With no entry the sectors are those below.
laid_none : (below : List (List ℕ)) → laid [] below ≡ below
unfolding looked_up
laid_none below =
    same_lists _ _ (laid_length [] below)
    (λ s d h.
    let lt : s < length below = omega (arith, laid_length [] below) in
    laid_at [] below s d lt ∙ get_or_default below s [] d lt)

pub overlaid_none : (below : List (List ℕ)) → overlaid [] below ≡ starting below
unfolding looked_up
overlaid_none below = ap (λ ss. record { sectors = ss; kept = λ _. false; keeps = 32 }) (laid_none below)

-- A sector with an entry is read from it.
pub read_kept : (es : List Entry) (below : List (List ℕ)) (s : ℕ) (before bytes : List ℕ) → s < length below → Has es s bytes → Reads (laid es below) s before (Ok tt) bytes
read_kept es below s before bytes within (_, read) = (simp laid_length within, read (get_or below s []) ∙ sym (laid_at es below s [] within))

-- A sector with no entry is read below.
pub read_below : (es : List Entry) (below : List (List ℕ)) (s : ℕ) (before : List ℕ) (r : Result (Unit {0}) NoSuchSector) (after : List ℕ) → Lacks es s → Reads below s before r after → Reads (laid es below) s before r after
read_below es below s before (Ok _) after (_, clear) (lt, read) = (simp laid_length lt, read ∙ clear (get_or below s []) ∙ sym (laid_at es below s [] lt))
read_below es below s before (Err _) after (_, clear) (past, same) = (simp laid_length past, same)

module _ (es : List Entry) (below : List (List ℕ)) (s : ℕ) (block : List ℕ) where
  laid_upsert : s < length below → laid (upsert es s block) below ≡ set (laid es below) s block
  laid_upsert h =
      same_lists _ _
      (laid_length (upsert es s block) below ∙ sym (laid_length es below) ∙ sym (length-set (laid es below) s block))
      (λ k d within.
      let lt : k < length below = omega (arith, laid_length (upsert es s block) below) in
      laid_at (upsert es s block) below k d lt
      ∙ looked_up_upsert (λ e. e.bytes) es s block k (get_or below k [])
      ∙ ⊎_elim
      (λ (same : k ≡ s).
      cond-true (eqb s k) _ _ (eq-eqb s k (sym same))
      ∙ sym (get_or-set_same (laid es below) s block d (omega (arith, laid_length es below)))
      ∙ ap (λ n. get_or (set (laid es below) s block) n d) (sym same))
      (λ (ne : k ≢ s).
      cond-false (eqb s k) _ _ (ne_eqb s k (λ e. ne (sym e)))
      ∙ sym (laid_at es below k d lt)
      ∙ sym (get_or-set_other (laid es below) s k block d ne))
      (cases_eq k s))

  pub upsert_written : s < length below → (holds es s ≡ false → length es < 32) → Written (overlaid es below) s block (overlaid (upsert es s block) below)
  upsert_written h room = record {
    holds = laid_upsert h;
    kept_now = looked_up_upsert (λ _. true) es s block s false ∙ cond-true (eqb s s) _ _ (eq-eqb s s refl);
    kept_others = λ k ne. looked_up_upsert (λ _. true) es s block k false ∙ cond-false (eqb s k) _ _ (ne_eqb s k (λ e. ne (sym e)));
    paid =
        ⊎_elim
        (λ (was : holds es s ≡ true).
        inl (was, ap (λ n. 32 - n) (length_upsert es s block ∙ cond-true (holds es s) _ _ was)))
        (λ (new : holds es s ≡ false).
        let lt = room new in
        let longer = length_upsert es s block ∙ cond-false (holds es s) _ _ new in
        inr (new, omega arith))
        (cases_Bool (holds es s));
  }

  -- What the table answers is what the disk answers.
  pub put_written : (r : Result (Unit {0}) Full) (r' : Result (Unit {0}) WriteRefusal) (after : List Entry) → s < length below → MatchResult r (λ _. r' ≡ Ok tt) (λ _. r' ≡ Err refusal.NoKeep) → Keeps es s block r after → Writes (overlaid es below) s block r' (overlaid after below)
  put_written (Ok _) r' after within is (room, upserted) =
      subst (λ a. Writes (overlaid es below) s block a (overlaid after below)) (sym is)
      (simp laid_length within, subst (λ fs. Written (overlaid es below) s block (overlaid fs below)) (sym upserted) (upsert_written within room))
  put_written (Err _) r' after within is (none, full, same) =
      subst (λ a. Writes (overlaid es below) s block a (overlaid after below)) (sym is)
      (simp laid_length within, record { not_kept = none; none_left = omega arith }, ap (λ fs. overlaid fs below) same)
