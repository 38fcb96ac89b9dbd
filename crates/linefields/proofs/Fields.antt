-- The text of a line, where its fields are not the numbers that the code hands on: none, or an amount among them. Assumes nothing.
use Prim.Native.Nat.{ℕ}
use mathlib.Core.List.{[], ◌∷◌, ◌++◌}
use mathlib.Core.Path.{◌≡◌}
use lib.IntN.{ℤ}
use mir.Syntax.{w16}
use mir.Val.{SFits}
use Rattle.fields.specs.Pieces.{tab, join}
use Rattle.fields.specs.Numbers.{amount_text}
use Rattle.model.specs.declared.Line.{Line}
use Rattle.model.specs.declared.Line.TheVariants.{In, Rot, Free}
use Rattle.model.specs.declared.Word as Words
use Rattle.model.specs.Words.{entry}
use Rattle.text.specs.Files.{line_form}
use Rattle.spelling.proofs.Signs.{held}
use Rattle.spelling.proofs.Fields.{numbered, amount_more}

pub in_text : (l : Line) → l ≡ In → line_form.text l ≡ (entry Words.TheVariants.In).bytes
unfolding join
in_text l e = rw e

pub rot_text :
    (l : Line) (a : ℕ) (z : ℤ) → l ≡ Rot a z → SFits w16 z →
    line_form.text l ≡ numbered (entry Words.TheVariants.Rot).bytes (a ∷ []) ++ (tab ∷ amount_text (held z))
rot_text l a z e h = rw e (amount_more (entry Words.TheVariants.Rot).bytes (a ∷ []) z h)

pub free_text : (l : Line) → l ≡ Free → line_form.text l ≡ []
unfolding join
free_text l e = rw e
