-- What each kind of call asks for.
use Rattle.std.specs.Prelude.{◌≡◌, ℕ, ◌<◌, Ok, Err, Result}
use Rattle.ffi.specs.declared.asked.Asked.{Asked}
use Rattle.ffi.specs.declared.asked.NoSuchKind.{NoSuchKind}
use Rattle.ffi.specs.declared.asked.Asked.TheVariants as asked

-- what a call's kind asks for
abbrev pub KindAsks : ℕ → Result Asked NoSuchKind → Type 0
KindAsks kind (Ok asked.Start) = kind ≡ 0
KindAsks kind (Ok asked.Run) = kind ≡ 1
KindAsks kind (Ok asked.Feed) = kind ≡ 2
KindAsks kind (Ok asked.Collect) = kind ≡ 3
KindAsks kind (Ok asked.Tally) = kind ≡ 4
KindAsks kind (Ok asked.Registers) = kind ≡ 5
KindAsks kind (Ok asked.Sector) = kind ≡ 6
KindAsks kind (Err _) = 6 < kind
