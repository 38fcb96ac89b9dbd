-- A line that names other values: where these hold the same and are of the same kinds, the check finds the same of it, and it is as well formed.
-- Assumes nothing.
use Prim.Native.Nat.{ℕ, ◌<◌}
use mathlib.Core.Path.{◌≡◌, refl, sym, ap, ap₂, ◌∙◌, subst}
use mathlib.Core.Bool.{Bool, ◌&&◌}
use mathlib.Core.List.{List, [], ◌∷◌, map}
use mathlib.Core.Option.{Option, none, some}
use lib.Dec.{T}
use lib.ListN.{length, get_or, get_elem?}
use Rattle.model.specs.declared.Found.{Found}
use Rattle.model.specs.declared.Grammar.TheVariants.{Circuit, Schedule}
use Rattle.model.specs.declared.Header.{Header}
use Rattle.model.specs.declared.Kind.{Kind}
use Rattle.model.specs.declared.Kind.TheVariants.{Nothing}
use Rattle.model.specs.declared.Line.{Line}
use Rattle.model.specs.declared.Line.TheVariants.{In, Const, Neg, Rot, Add, Mul, Out, Enc, Rs, Ms, Us, Free}
use Rattle.model.specs.Answers.{check_machine}
use Rattle.model.specs.Files.{row_of, is_word, in_range, operands, kind_at, is_usable, every_usable, asks_for, kinds_fit}
use Rattle.model.specs.Machine.{Step, goes, stops, and_then, held_by, step}
use Rattle.model.specs.Services.{renamed}
use Rattle.model.specs.Words.{Asks}
use Rattle.model.proofs.Tests.{and_first, and_second}
use Rattle.model.proofs.EveryWord.{each_line}
use Rattle.model.proofs.Lists.{All, nil, cons}
use Rattle.model.proofs.Runs.{or_absent, stops_goes}
use Rattle.model.proofs.Formed.{LineFacts, usable_below}

-- ---- steps
module _ {X E : Type 0} where
  -- where the first goes, the second goes to the same
  goes_then : (s t : Step X E) (f g : X → Step X E) → ((x : X) → s ≡ goes x → t ≡ goes x) → ((x v : X) → f x ≡ goes v → g x ≡ goes v) → (v : X)
      → and_then s f ≡ goes v → and_then t g ≡ goes v
  goes_then (goes x) t f g p q v e = ap (λ (u : Step X E). and_then u g) (p x refl) ∙ q x v e
  goes_then (stops n) t f g p q v e = stops_goes e

module _ (h : Header) (held out : List Found) (name : ℕ → ℕ) where
  -- the value with the other name holds the same
  abbrev pub HoldsSame : ℕ → Type 0
  HoldsSame a = (v : Found) → get_elem? held a ≡ some v → get_elem? out (name a) ≡ some v

  look : (a : ℕ) → HoldsSame a → (v : Found) → held_by (check_machine h) held a ≡ goes v → held_by (check_machine h) out (name a) ≡ goes v
  look a p v e = go (get_elem? held a) p e
    where
      go : (o : Option Found) → ((v : Found) → o ≡ some v → get_elem? out (name a) ≡ some v) → or_absent {E = ℕ} 4 o ≡ goes v → held_by (check_machine h) out (name a) ≡ goes v
      go none p e = stops_goes e
      go (some w) p e = ap (or_absent 4) (p w refl) ∙ e

  one : (a : ℕ) (f : Found → Step Found ℕ) → HoldsSame a → (v : Found) → and_then (held_by (check_machine h) held a) f ≡ goes v
      → and_then (held_by (check_machine h) out (name a)) f ≡ goes v
  one a f p v e = goes_then (held_by (check_machine h) held a) (held_by (check_machine h) out (name a)) f f (look a p) (λ x v e. e) v e

  two : (a b : ℕ) (f : Found → Found → Step Found ℕ) → HoldsSame a → HoldsSame b → (v : Found)
      → and_then (held_by (check_machine h) held a) (λ x. and_then (held_by (check_machine h) held b) (f x)) ≡ goes v
      → and_then (held_by (check_machine h) out (name a)) (λ x. and_then (held_by (check_machine h) out (name b)) (f x)) ≡ goes v
  two a b f p q v e =
      goes_then (held_by (check_machine h) held a) (held_by (check_machine h) out (name a)) (λ x. and_then (held_by (check_machine h) held b) (f x))
      (λ x. and_then (held_by (check_machine h) out (name b)) (f x)) (look a p) (λ x. one b (f x) q) v e

  pub renamed_step : (ins n : ℕ) (x : Line) → All HoldsSame (operands x) → (v : Found) → step (check_machine h) ins held x ≡ goes v
      → step (check_machine h) n out (renamed name x) ≡ goes v
  renamed_step ins n In p v e = e
  renamed_step ins n (Const k) p v e = e
  renamed_step ins n (Neg a) (cons p nil) v e = one a (check_machine h).neg p v e
  renamed_step ins n (Rot a t) (cons p nil) v e = one a (λ x. (check_machine h).rot x t) p v e
  renamed_step ins n (Add a b) (cons p (cons q nil)) v e = two a b (check_machine h).add p q v e
  renamed_step ins n (Mul a b) (cons p (cons q nil)) v e = two a b (check_machine h).mul p q v e
  renamed_step ins n (Out a) (cons p nil) v e = one a (check_machine h).out p v e
  renamed_step ins n (Enc a s l) (cons p nil) v e = one a (λ x. (check_machine h).enc x s l) p v e
  renamed_step ins n (Rs a c) (cons p nil) v e = one a (λ x. (check_machine h).rs x c) p v e
  renamed_step ins n (Ms a c) (cons p nil) v e = one a (λ x. (check_machine h).ms x c) p v e
  renamed_step ins n (Us a b) (cons p nil) v e = one a (λ x. (check_machine h).us x b) p v e
  renamed_step ins n Free p v e = e

-- ---- well formed
pub operands_below : (before : List Line) (as' : List ℕ) → T (every_usable before as') → All (λ a. a < length before) as'
operands_below before [] t = nil
operands_below before (a ∷ as') t =
    cons (usable_below before a (and_first (is_usable (kind_at before a)) (every_usable before as') t))
    (operands_below before as' (and_second (is_usable (kind_at before a)) (every_usable before as') t))

module _ (before lines : List Line) (name : ℕ → ℕ) where
  abbrev pub SameKind : ℕ → Type 0
  SameKind a = kind_at lines (name a) ≡ kind_at before a

  same_kinds : (as' : List ℕ) → All SameKind as' → map (kind_at lines) (map name as') ≡ map (kind_at before) as'
  same_kinds [] p = refl
  same_kinds (a ∷ as') (cons p q) = λ i. p i ∷ same_kinds as' q i

  same_usable : (as' : List ℕ) → All SameKind as' → every_usable lines (map name as') ≡ every_usable before as'
  same_usable [] p = refl
  same_usable (a ∷ as') (cons p q) = ap₂ (λ (k : Kind) (b : Bool). is_usable k && b) p (same_usable as' q)

  renamed_operands : (x : Line) → operands (renamed name x) ≡ map name (operands x)
  renamed_operands x = each_line (λ y. operands (renamed name y)) (λ y. map name (operands y)) (λ ns. refl) x

  same_fit : (x : Line) → All SameKind (operands x) → kinds_fit Schedule lines (renamed name x) ≡ kinds_fit Schedule before x
  same_fit x p =
      ap₂ (λ (asks : Asks) (kinds : List Kind). asks_for Schedule asks (get_or kinds 0 Nothing) (get_or kinds 1 Nothing))
      (each_line (λ y. (row_of (renamed name y)).asks) (λ y. (row_of y).asks) (λ ns. refl) x)
      (ap (map (kind_at lines)) (renamed_operands x) ∙ same_kinds (operands x) p)

  pub renamed_formed : (h : Header) (x : Line) → All SameKind (operands x) → LineFacts Schedule h before x → LineFacts Schedule h lines (renamed name x)
  renamed_formed h x p l =
      record {
        word = subst T (sym (each_line (λ y. is_word Schedule (renamed name y)) (is_word Schedule) (λ ns. refl) x)) l.word;
        range = subst T (sym (each_line (λ y. in_range h (renamed name y)) (in_range h) (λ ns. refl) x)) l.range;
        usable = subst T (sym (ap (every_usable lines) (renamed_operands x) ∙ same_usable (operands x) p)) l.usable;
        kinds = subst T (sym (same_fit x p)) l.kinds;
      }

-- a line stays one of a circuit's, or of a schedule's own
pub renamed_word : (name : ℕ → ℕ) (x : Line) → is_word Circuit (renamed name x) ≡ is_word Circuit x
renamed_word name x = each_line (λ y. is_word Circuit (renamed name y)) (is_word Circuit) (λ ns. refl) x
