-- What holds of each element of a list. Assumes nothing.
use mathlib.Core.List.{List, [], ◌∷◌, ◌++◌}

module _ {X : Type 0} where
  pub data Each (P : X → Type 0) : List X → Type 0 where
    none : Each P []
    one : {x : X} {xs : List X} → P x → Each P xs → Each P (x ∷ xs)

  pub each_first : {P : X → Type 0} {x : X} {xs : List X} → Each P (x ∷ xs) → P x
  each_first (one p ps) = p

  pub each_rest : {P : X → Type 0} {x : X} {xs : List X} → Each P (x ∷ xs) → Each P xs
  each_rest (one p ps) = ps

  pub each_map : {P Q : X → Type 0} {xs : List X} → ((x : X) → P x → Q x) → Each P xs → Each Q xs
  each_map f none = none
  each_map f (one {x = x} p ps) = one (f x p) (each_map f ps)

  pub each_append : {P : X → Type 0} {xs ys : List X} → Each P xs → Each P ys → Each P (xs ++ ys)
  each_append none qs = qs
  each_append (one p ps) qs = one p (each_append ps qs)
