-- What a start finds and leaves.
use Rattle.std.proofs.Common.{◌≡◌, ℕ, List, [], ◌++◌, get_or, take, drop, sym, ap, ◌∙◌}
use Rattle.std.proofs.lemmas.List.{take-append-drop}

-- sector 0 stands at the front of memory
pub first_sector : (ss ss' : List (List ℕ)) (new memory : List ℕ) → ss' ≡ ss → new ≡ get_or ss 0 [] → new ++ drop 512 memory ≡ get_or ss' 0 [] ++ drop 512 memory
first_sector ss ss' new memory is e = ap (λ l. l ++ drop 512 memory) (e ∙ ap (λ l. get_or l 0 []) (sym is))

-- memory whose front came back as it was
pub front_back : (new memory : List ℕ) → new ≡ take 512 memory → new ++ drop 512 memory ≡ memory
front_back new memory e = ap (λ l. l ++ drop 512 memory) e ∙ take-append-drop 512 memory
