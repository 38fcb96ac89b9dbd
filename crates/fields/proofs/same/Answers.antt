use mathlib.Core.Path.{◌≡◌, refl, ap, ◌∙◌}
use mathlib.Core.Bool.{Bool, ◌&&◌}
use mathlib.Core.List.{[], ◌∷◌}
use lib.Dec.{eqb}
use lib.Pointwise.{pointwise}
use Rattle.fields.specs.Pieces.{Bytes, same_bytes}
use Rattle.fields.proofs.same.Goals as goal

same_is : (a b : Bytes) → pointwise eqb a b ≡ same_bytes a b
unfolding same_bytes
same_is [] [] = refl
same_is [] (c ∷ cs) = refl
same_is (b ∷ bs) [] = refl
same_is (b ∷ bs) (c ∷ cs) = ap (λ (t : Bool). eqb b c && t) (same_is bs cs)

pub returns : goal.returns
returns c = c.eq.ensures ∙ same_is c.args.a.now c.args.b.now
