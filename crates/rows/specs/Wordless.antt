-- Lines that begin with no word. No file of document 01 has any, so no promise rests on this.
use Rattle.std.specs.Prelude.{List, map, ℤ}
use Rattle.fields.specs.Pieces.{tab, split, join}
use Rattle.fields.specs.Numbers.{amount_text}
use Rattle.rows.specs.Fields.{Holds, read_fields}
use Rattle.rows.specs.Forms.{Form}

abbrev pub wordless : List Holds → Form (List ℤ)
wordless fs = record { reads = λ p. read_fields fs (split tab p); text = λ ns. join tab (map amount_text ns) }
