-- The line feeds of a schedule's text are its lines and the header's. Assumes nothing.
use Prim.Native.Nat.{suc}
use mathlib.Core.Path.{◌≡◌, refl, ap, ◌∙◌}
use mathlib.Core.List.{List, [], ◌∷◌, ◌++◌, map}
use borrow.Author.Tests.{ne_eqb}
use lib.ListN.{length}
use Rattle.fields.specs.Pieces.{Bytes, line_feed}
use Rattle.fields.proofs.Each.{none, one}
use Rattle.fields.proofs.PieceLaws.{Without}
use Rattle.rows.specs.Lines.{text_of}
use Rattle.rows.specs.Rows as Rows
use Rattle.model.specs.declared.Line.{Line}
use Rattle.model.specs.declared.Grammar.TheVariants.{Schedule}
use Rattle.model.specs.Files.{File}
use Rattle.text.specs.Files.{line_form, schedule_context, file_text}
use Rattle.text.proofs.FileLaws.{lawful}
use Rattle.quotes.specs.Quotes.{line_feeds}

one_feed : {p : Bytes} (rest : Bytes) → Without line_feed p → line_feeds (p ++ (line_feed ∷ rest)) ≡ suc (line_feeds rest)
one_feed rest none = refl
one_feed rest (one {x = b} other others) = rw (ne_eqb b line_feed other) (one_feed rest others)

feeds_of : (xs : List Line) → line_feeds (text_of (map line_form.text xs)) ≡ length xs
unfolding text_of
feeds_of [] = refl
feeds_of (x ∷ xs) = one_feed (text_of (map line_form.text xs)) ((lawful schedule_context).line.closed x) ∙ ap suc (feeds_of xs)

pub text_feeds : (f : File) → line_feeds (file_text Schedule f) ≡ suc (length f.lines)
unfolding Rows.file_text text_of
text_feeds f = one_feed (text_of (map line_form.text f.lines)) ((lawful schedule_context).header.closed f.header) ∙ ap suc (feeds_of f.lines)
