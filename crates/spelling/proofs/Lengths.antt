-- How long texts can be. Assumes nothing.
use Prim.Native.Nat.{ℕ, suc, ◌+◌, ◌*◌, ◌≤◌}
use mathlib.Core.List.{List, [], ◌∷◌, map}
use mathlib.Core.Path.{◌≡◌, ap}
use native.Mathlib.Omega.{arith}
use lib.IntN.{ℤ, pos, negsuc}
use lib.ListN.{length, length-append}
use Rattle.fields.specs.Pieces.{Bytes, tab, join}
use Rattle.fields.specs.Numbers.{decimal, amount_text}
use Rattle.spelling.proofs.Digits.{at_most}
use Rattle.spelling.proofs.Fields.{numbered, tabbed, word_first, more_fields}

tabbed_most : (ns : List ℕ) → length (tabbed (map decimal ns)) ≤ 21 * length ns
tabbed_most [] = omega arith
tabbed_most (n ∷ ns) = omega (arith, tabbed_most ns, at_most 20 n, length-append (decimal n) (tabbed (map decimal ns)))

-- a word and numbers
pub numbered_most : (w : Bytes) (ns : List ℕ) → length (numbered w ns) ≤ length w + 21 * length ns
numbered_most w ns = omega (arith, ap length (word_first w ns), length-append w (tabbed (map decimal ns)), tabbed_most ns)

pub amount_most : (z : ℤ) → length (amount_text z) ≤ 21
amount_most (pos n) = omega (arith, at_most 20 n)
amount_most (negsuc n) = omega (arith, at_most 20 (suc n))

-- a word, a number and an amount
pub rot_length :
    (w : Bytes) (a : ℕ) (z : ℤ) →
    length (join tab (w ∷ decimal a ∷ amount_text z ∷ [])) ≡ length (numbered w (a ∷ [])) + 1 + length (amount_text z)
rot_length w a z =
    let amount : Bytes = tabbed (amount_text z ∷ []) in
    omega (
      arith,
      ap length (more_fields w (decimal a ∷ []) (amount_text z ∷ [])),
      length-append (numbered w (a ∷ [])) amount,
      length-append (amount_text z) [],
    )
