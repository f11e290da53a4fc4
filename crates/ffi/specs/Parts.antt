-- Parts of a caller's bytes.
use Rattle.std.specs.Prelude.{◌≡◌, ℕ, max, List, length, take, drop}

-- outside the part from one place to another the bytes are as they were
pub record ElsewhereSame (from to : ℕ) (before after : List ℕ) : Type 0 where
  pub length_same : length after ≡ length before
  pub front_same : take from after ≡ take from before
  pub rest_same : drop (max from to) after ≡ drop (max from to) before
