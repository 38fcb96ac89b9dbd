-- The worked cases hold: each is computed from the definitions, and one law gives the equation at each case of the table. Assumes nothing.
use Prim.Native.Nat.{ℕ, zero, suc, ◌<◌}
use native.Mathlib.Nat.{not-suc-le-zero, le_of_suc-le-suc}
use mathlib.Core.Path.{◌≡◌, refl}
use mathlib.Core.List.{List, [], ◌∷◌, ◌++◌, zip_with}
use lib.Dec.{T}
use lib.ListN.{length, get_or}
use Rattle.model.specs.Scales.{headroom}
use Rattle.model.specs.Worked.{Case, input_formed, all_formed, ends_of, machine_cases, reserve_cases, plan_cases, constant_cases, headroom_cases, headroom_plans, cases, no_case}
use Rattle.model.proofs.Statements.WorkedCases as WorkedCases
use Rattle.model.proofs.Tests.{and_first, and_second}

-- each case of a list ends as it says: a proof for each, so that the one that fails is told
abbrev EndSo : List Case → Type 0
EndSo [] = Unit {0}
EndSo (c ∷ cs) = (ends_of c.asked c.input ≡ c.ends) × EndSo cs

machines_tested : EndSo machine_cases
unfolding headroom zip_with
machines_tested = (refl, (refl, (refl, (refl, (refl, (refl, (refl, (refl, (refl, tt)))))))))

reserves_tested : EndSo reserve_cases
unfolding headroom
reserves_tested = (refl, (refl, (refl, (refl, (refl, (refl, (refl, (refl, (refl, tt)))))))))

plans_tested : EndSo plan_cases
unfolding headroom
plans_tested = (refl, (refl, (refl, (refl, (refl, (refl, (refl, (refl, (refl, (refl, (refl, (refl, (refl, (refl, (refl, (refl, tt))))))))))))))))

constants_tested : EndSo constant_cases
constants_tested = (refl, (refl, (refl, tt)))

headroom_tested : EndSo headroom_cases
unfolding headroom zip_with
headroom_tested = (refl, (refl, (refl, (refl, (refl, (refl, (refl, (refl, (refl, (refl, (refl, (refl, (refl, (refl, (refl, (refl, tt))))))))))))))))

headroom_plans_tested : EndSo headroom_plans
unfolding headroom
headroom_plans_tested = (refl, (refl, (refl, (refl, (refl, (refl, (refl, (refl, (refl, (refl, (refl, tt)))))))))))

both_tested : (cs ds : List Case) → EndSo cs → EndSo ds → EndSo (cs ++ ds)
both_tested [] ds t u = u
both_tested (c ∷ cs) ds t u = (t.0, both_tested cs ds t.1 u)

formed : T (all_formed cases)
formed = tt

-- ---- at each case
all_formed_lem : (cs : List Case) → T (all_formed cs) → (k : ℕ) → k < length cs → T (input_formed (get_or cs k no_case))
all_formed_lem [] t k u = absurd (not-suc-le-zero u)
all_formed_lem (c ∷ cs) t zero u = and_first (input_formed c) (all_formed cs) t
all_formed_lem (c ∷ cs) t (suc k) u = all_formed_lem cs (and_second (input_formed c) (all_formed cs) t) k (le_of_suc-le-suc u)

all_end_so : (cs : List Case) → EndSo cs → (k : ℕ) → k < length cs → ends_of (get_or cs k no_case).asked (get_or cs k no_case).input ≡ (get_or cs k no_case).ends
all_end_so [] t k u = absurd (not-suc-le-zero u)
all_end_so (c ∷ cs) t zero u = t.0
all_end_so (c ∷ cs) t (suc k) u = all_end_so cs t.1 k (le_of_suc-le-suc u)

-- every case of the table
pub worked : WorkedCases.Statement
worked k u =
    let headrooms = both_tested headroom_cases headroom_plans headroom_tested headroom_plans_tested in
    let last = both_tested constant_cases (headroom_cases ++ headroom_plans) constants_tested headrooms in
    let plans = both_tested plan_cases (constant_cases ++ headroom_cases ++ headroom_plans) plans_tested last in
    let reserves = both_tested reserve_cases (plan_cases ++ constant_cases ++ headroom_cases ++ headroom_plans) reserves_tested plans in
    let tested = both_tested machine_cases (reserve_cases ++ plan_cases ++ constant_cases ++ headroom_cases ++ headroom_plans) machines_tested reserves in
    record { formed = all_formed_lem cases formed k u; ends_so = all_end_so cases tested k u }
