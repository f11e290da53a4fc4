-- Bytes written one after another into a buffer.
use Rattle.std.specs.Prelude.{◌≡◌, ℕ, ◌+◌, ◌≤◌, List, ◌++◌, length, take, drop}
use Rattle.assembler.specs.declared.writer.Writer.{Writer}

-- a piece was written into a buffer from a place on, up to an end; what lies before and after is as it was
pub record Appended (out : List ℕ) (at : ℕ) (piece after : List ℕ) (end : ℕ) : Type 0 where
  pub size : length after ≡ length out
  pub till : end ≡ at + length piece
  pub front : take end after ≡ take at out ++ piece
  pub rest : drop end after ≡ drop end out

-- there is room for so many bytes more
abbrev pub HasRoom : Writer → ℕ → Type 0
HasRoom w size = w.end + size ≤ length w.out.now

-- a writer wrote a piece, and holds the same lent buffer
pub record Writes (before : Writer) (piece : List ℕ) (after : Writer) : Type 0 where
  pub written : Appended before.out.now before.end piece after.out.now after.end
  pub lender : after.out.ghost_name ≡ before.out.ghost_name
