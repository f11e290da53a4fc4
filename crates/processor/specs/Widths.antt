-- How many bytes of memory an access has.
use Rattle.std.specs.Prelude.{ℕ}
use Rattle.processor.specs.declared.width.Width.{Width}
use Rattle.processor.specs.declared.width.Width.TheVariants.{Byte, Half, Word}

abbrev pub size : Width → ℕ
size Byte = 1
size Half = 2
size Word = 4
