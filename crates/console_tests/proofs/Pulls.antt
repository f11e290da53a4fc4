-- One more pull from a console, and the last one.
use Rattle.std.proofs.Common.{◌≡◌, ℕ, ◌+◌, ◌<◌, [], ◌∷◌, length, get_or, drop, Some, None, Option, sym, refl, ap, ◌∙◌, add-zero, add-mul, one-mul, zero-mul, arith}
use Rattle.std.proofs.lemmas.List.{length-drop, drop_more, drop_all}
use Rattle.console.specs.Consoles.{Kind, Console, Pulls}
use Rattle.console_tests.specs.Draining.{Drained}

pub none_drained : (kind : Kind) (c : Console) → Drained kind c 0 c
none_drained kind c = record {
  printed_left = refl;
  paper_after = rw (zero-mul, add-zero);
  waiting_same = refl;
  slots_same = refl;
}

pub one_more_drained : (kind : Kind) (c c₁ c₂ : Console) (n : ℕ) (r : Option ℕ) → n < length c.printed → Drained kind c n c₁ → Pulls kind c₁ r c₂ → Drained kind c (n + 1) c₂
one_more_drained kind c c₁ c₂ n None some d (none, same) =
    absurd (omega (arith, length-drop n c.printed, ap length (sym d.printed_left ∙ none)))
one_more_drained kind c c₁ c₂ n (Some byte) some d p =
    let e : byte ∷ c₂.printed ≡ get_or c.printed n 0 ∷ drop (n + 1) c.printed = sym p.first_printed ∙ d.printed_left ∙ drop_more c.printed n 0 some in
    record {
      printed_left = cc;
      paper_after = p.paper_after ∙ omega (arith, d.paper_after, add-mul n 1 kind.paper_back, one-mul kind.paper_back);
      waiting_same = p.waiting_same ∙ d.waiting_same;
      slots_same = p.slots_same ∙ d.slots_same;
    }

pub all_drained : (kind : Kind) (c c₁ : Console) → Drained kind c (length c.printed) c₁ → c₁.printed ≡ []
all_drained kind c c₁ d = d.printed_left ∙ drop_all (length c.printed) c.printed (omega arith)
