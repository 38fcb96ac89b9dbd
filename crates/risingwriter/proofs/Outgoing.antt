-- A schedule as a listing: where it keeps a schedule's rules the listing keeps the dialect's. Assumes nothing.
use Prim.Native.Nat.{ℕ}
use native.Mathlib.Omega.{arith}
use mathlib.Core.Path.{◌≡◌, sym, ap, ◌∙◌, subst}
use mathlib.Core.List.{List}
use lib.Dec.{T}
use lib.ListN.{length, get_or, length-map, get_or-map}
use Rattle.model.specs.declared.Grammar.TheVariants.{Schedule}
use Rattle.model.specs.declared.Line.{Line}
use Rattle.model.specs.declared.Line.TheVariants.{Free}
use Rattle.model.specs.Files.{File, well_formed}
use Rattle.model.specs.Rules.{Rule, has_scale, KeepsRules}
use Rattle.listings.specs.Listings.{Listed, line, turned, as_schedules}
use Rattle.listings.specs.Rules.{KeepsRisingRules}
use Rattle.listings.proofs.Falling.{FallingRule, KeepsFalling, as_line, rises}
use Rattle.risingwriter.specs.GoingOut.{rising_file}
use Rattle.risingwriter.proofs.Turned.{going_out_as, going_out_formed}

-- ---- the schedule
module _ (s : File) (formed : T (well_formed Schedule s.header s.lines)) where
  outgoing_line : (i : ℕ) → get_or s.lines i Free ≡ as_schedules s.header (get_or (rising_file s).lines i (line Free))
  outgoing_line i = ap (λ (l : List Line). get_or l i Free) (sym (going_out_as s formed)) ∙ as_line s.header (rising_file s).lines i

  outgoing_length : length (rising_file s).lines ≡ length s.lines
  outgoing_length = length-map s.lines (λ x. line (turned s.header x))

  outgoing_keeps : (k : KeepsRules s.header s.lines) → KeepsFalling s.header (rising_file s).lines k.scale k.level
  outgoing_keeps k =
      record {
        rules = λ i b. rule i (subst (Rule s.header k.scale k.level i) (outgoing_line i) (k.rules i (omega (arith, outgoing_length))));
        bounds = λ i b t. k.bounds i (omega (arith, outgoing_length)) (subst (λ (x : Line). T (has_scale x)) (sym (outgoing_line i)) t);
      }
    where
      x_is : (i : ℕ) → get_or (rising_file s).lines i (line Free) ≡ line (turned s.header (get_or s.lines i Free))
      x_is i = get_or-map (λ x. line (turned s.header x)) s.lines i Free

      rule : (i : ℕ) → Rule s.header k.scale k.level i (as_schedules s.header (get_or (rising_file s).lines i (line Free)))
          → FallingRule s.header k.scale k.level i (get_or (rising_file s).lines i (line Free))
      rule i r =
          subst (λ (x : Listed). Rule s.header k.scale k.level i (as_schedules s.header x) → FallingRule s.header k.scale k.level i x)
          (sym (x_is i)) (λ q. q) r

-- A schedule that keeps its rules keeps the dialect's as a listing.
pub outgoing : (s : File) → T (well_formed Schedule s.header s.lines) → KeepsRules s.header s.lines
    → KeepsRisingRules s.header (rising_file s).lines
outgoing s formed k = rises s.header (rising_file s).lines (going_out_formed s formed) k.scale k.level (outgoing_keeps s formed k)
