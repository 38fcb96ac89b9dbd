-- The loop over a schedule's lines: the price and the levels so far, for whatever scales and levels keep the rules. Assumes nothing.
use Prim.Native.Nat.{ℕ, ◌+◌, ◌-◌, ◌*◌, ◌≤◌, ◌<◌}
use native.Mathlib.Nat.{mul-le-mul}
use native.Mathlib.Numerals.{add-one}
use native.Mathlib.Omega.{arith}
use mathlib.Core.Path.{◌≡◌, refl, sym, ap, ap₂, ◌∙◌, subst}
use mathlib.Core.Bool.{◌||◌}
use mathlib.Core.List.{List, [], ◌∷◌, ◌++◌, map}
use mathlib.Core.Logic.{⊎_elim}
use borrow.Author.Rules.{rules}
use lib.Dec.{T}
use lib.ListN.{length, get_or, take, set, replicate, length-map, length-set, length-replicate, get_or-map}
use lib.Seq.{take_all, length-take-le, get_or-take, take-suc, get_or-set_same, get_or-set_other}
use mir.Syntax.{w16, w32}
use mir.Val.{Fits}
use Rattle.model.specs.declared.Grammar.TheVariants.{Schedule}
use Rattle.model.specs.declared.Header.{Header}
use Rattle.model.specs.declared.Kind.{Kind}
use Rattle.model.specs.declared.Kind.TheVariants.{Ciphertext, Constant, Encoded, Nothing}
use Rattle.model.specs.declared.Line.{Line}
use Rattle.model.specs.declared.Line.TheVariants.{In, Const, Neg, Rot, Add, Mul, Out, Enc, Rs, Ms, Us, Free}
use Rattle.model.specs.Scales.{header_in_range}
use Rattle.model.specs.Files.{kind_of, kind_at, is_ciphertext, is_encoded, is_usable, is_word, operands}
use Rattle.model.specs.Rules.{Rule, KeepsRules}
use Rattle.model.proofs.Tests.{or_first, below_or_not}
use Rattle.model.proofs.Checked.{pair_numbers}
use Rattle.model.proofs.Formed.{LineFacts, well_header, well_lines, formed_index, usable_below}
use Rattle.operands.specs.Operands.{first_operand}
use Rattle.operands.proofs.Operands.{operand_below}
use Rattle.tables.specs.declared.Record.{Record}
use Rattle.tables.specs.Records.{free_record, line_of, lines_of, lines_held}
use Rattle.tables.proofs.Beside.{none_most, set_most}
use Rattle.prices.specs.Prices.{summed, per_level, down_from, starts_at, line_price, IsPrice}
use Rattle.prices.specs.Levels.{summed_starts, taken, level_after, OnLevel, RuledTable}

-- ---- a line that keeps its rule, where the level that is known of its operand is the one that the rules give
abbrev has_level : Kind → Type 0
has_level k = T (is_ciphertext k || is_encoded k)

-- line x, the i-th, by the level l of its operand
pub record Right (h : Header) (level : ℕ → ℕ) (i : ℕ) (x : Line) (l : ℕ) : Type 0 where
  pub low : taken x ≤ l
  pub starts : summed_starts x l ≡ summed (starts_at level x)
  pub after : has_level (kind_of x) → level_after h x l ≡ level i

module _ (h : Header) (scale level : ℕ → ℕ) (before : List Line) (i : ℕ) (levels : List ℕ)
    (known : (a : ℕ) → has_level (kind_at before a) → get_or levels a 0 ≡ level a) where
  -- what takes no level away and has its operand's
  unmoved : (x : Line) (a : ℕ) → has_level (kind_at before a) → level i ≡ level a → taken x ≡ 0 → starts_at level x ≡ level a ∷ []
      → starts_at (λ b. get_or levels a 0) x ≡ get_or levels a 0 ∷ [] → level_after h x (get_or levels a 0) ≡ get_or levels a 0 → Right h level i x (get_or levels a 0)
  unfolding summed_starts
  unmoved x a has rule none is at same =
      let l = known a has in
      record { low = omega (arith, none); starts = ap summed (at ∙ ap (λ (n : ℕ). n ∷ []) l ∙ sym is); after = λ t. same ∙ l ∙ sym rule }

  one_named : (a : ℕ) → T (is_ciphertext (kind_at before a)) → has_level (kind_at before a)
  one_named a t = or_first (is_ciphertext (kind_at before a)) (is_encoded (kind_at before a)) t

  -- what takes levels away
  lowered : (x : Line) (a c : ℕ) → T (is_ciphertext (kind_at before a)) → level i + c ≡ level a → taken x ≡ c
      → ((l : ℕ → ℕ) → starts_at l x ≡ down_from (l a) c) → level_after h x (get_or levels a 0) ≡ get_or levels a 0 - c → Right h level i x (get_or levels a 0)
  unfolding summed_starts
  lowered x a c is_one rule takes are same =
      let l = known a (one_named a is_one) in
      record {
        low = omega (arith, takes, l);
        starts = ap summed (are (λ b. get_or levels a 0) ∙ ap (λ (n : ℕ). down_from n c) l ∙ sym (are level));
        after = λ t. omega (arith, same, l);
      }

  pub right : (x : Line) → LineFacts Schedule h before x → Rule h scale level i x → Right h level i x (get_or levels (first_operand x) 0)
  unfolding first_operand summed_starts
  right In f r = record { low = omega arith; starts = refl; after = λ t. sym r.1 }
  right (Const k) f r = record { low = omega arith; starts = refl; after = λ t. absurd t }
  right (Neg a) f r = unmoved (Neg a) a (one_named a f.kinds) r.1 refl refl refl refl
  right (Rot a t) f r = unmoved (Rot a t) a (one_named a f.kinds) r.1 refl refl refl refl
  right (Add a b) f r = unmoved (Add a b) a (pair_numbers h scale level (kind_at before a) (kind_at before b) f.kinds).0 r.1 refl refl refl refl
  right (Mul a b) f r = unmoved (Mul a b) a (pair_numbers h scale level (kind_at before a) (kind_at before b) f.kinds).0 r.1 refl refl refl refl
  right (Out a) f r = record { low = omega arith; starts = refl; after = λ t. absurd t }
  right (Enc a s e) f r = record { low = omega arith; starts = refl; after = λ t. sym r.1 }
  right (Rs a c) f r = lowered (Rs a c) a c f.kinds r.1 refl (λ l. refl) refl
  right (Ms a c) f r = lowered (Ms a c) a c f.kinds r.1 refl (λ l. refl) refl
  right (Us a b) f r = unmoved (Us a b) a (one_named a f.kinds) r.1 refl refl refl refl
  right Free f r = absurd f.word

-- what has a level can be used
level_usable : (k : Kind) → has_level k → T (is_usable k)
level_usable Ciphertext t = tt
level_usable Constant t = absurd t
level_usable Encoded t = tt
level_usable Nothing t = absurd t

-- ---- the loop
abbrev price_to : List Line → (ℕ → ℕ) → ℕ → ℕ
price_to lines level i = summed (map (line_price lines level) (take i lines))

-- The loop's invariant. Known of line a: the level that whatever keeps the rules gives it.
pub record Pricing (h : Header) (records : List Record) (count : ℕ) (levels : List ℕ) (total i : ℕ) : Type 0 where
  pub table : RuledTable h records count
  pub wide : length levels ≡ 1792
  pub within : i ≤ count
  pub small : (a : ℕ) → get_or levels a 0 ≤ 60
  pub low : total ≤ i * 144000
  pub known : (keeps : KeepsRules h (lines_held records count)) (a : ℕ) → has_level (kind_at (take i (lines_held records count)) a) → get_or levels a 0 ≡ keeps.level a
  pub so_far : (keeps : KeepsRules h (lines_held records count)) → total ≡ price_to (lines_held records count) keeps.level i

sum_append : (xs : List ℕ) (n : ℕ) → summed (xs ++ (n ∷ [])) ≡ summed xs + n
sum_append [] n = omega arith
sum_append (x ∷ xs) n = omega (arith, sum_append xs n)

map_append : {A B : Type 0} (f : A → B) (xs : List A) (x : A) → map f (xs ++ (x ∷ [])) ≡ map f xs ++ (f x ∷ [])
map_append f [] x = refl
map_append f (y ∷ xs) x = ap (λ l. f y ∷ l) (map_append f xs x)

pub start : (h : Header) (records : List Record) (count : ℕ) → RuledTable h records count → Pricing h records count (replicate 1792 0) 0 0
start h records count t =
    record {
      table = t;
      wide = length-replicate {A = ℕ} 1792 0;
      within = omega arith;
      small = none_most 1792 60;
      low = omega arith;
      known = λ keeps a has. absurd has;
      so_far = λ keeps. refl;
    }

module _ (h : Header) (records : List Record) (count : ℕ) (levels : List ℕ) (total i : ℕ) (k : Pricing h records count levels total i) where
  abbrev lines : List Line
  lines = lines_held records count

  abbrev line : Line
  line = get_or (lines_of records) i Free

  lines_long : length lines ≡ count
  lines_long = length-take-le count (lines_of records) (omega (arith, length-map records line_of, k.table.room, k.table.few))

  pub records_within : count ≤ length records
  records_within = omega (arith, k.table.room, k.table.few)

  header_ranged : T (header_in_range h)
  header_ranged = well_header Schedule h lines k.table.formed

  pub level_wide : (a : ℕ) → Fits w32 (get_or levels a 0)
  level_wide a = record { fits = omega (arith, k.small a) }

  -- no line is left
  pub all_priced : count ≤ i → IsPrice h lines total
  all_priced end =
      record {
        price_is = λ keeps. k.so_far keeps ∙ ap (λ (l : List Line). summed (map (line_price lines keeps.level) l)) (take_all i lines (omega (arith, lines_long)));
      }

  module _ (more : i < count) where
    pub record_there : i < length records
    record_there = omega (arith, k.table.room, k.table.few)

    pub room : i < 1792
    room = omega (arith, k.table.few)

    inside : i < length lines
    inside = omega (arith, lines_long)

    line_is : get_or lines i Free ≡ line
    line_is = get_or-take count (lines_of records) i Free more

    before_long : length (take i lines) ≡ i
    before_long = length-take-le i lines (omega (arith, lines_long))

    facts : LineFacts Schedule h (take i lines) line
    facts =
        subst (LineFacts Schedule h (take i lines)) line_is
        (formed_index Schedule h lines (well_lines Schedule h lines k.table.formed) i inside)

    -- the line that record i holds
    abbrev own : Line
    own = line_of (get_or records i free_record)

    own_is : own ≡ line
    unfolding line_of
    own_is = sym (get_or-map line_of records i free_record)

    own_facts : LineFacts Schedule h (take i lines) own
    own_facts = subst (LineFacts Schedule h (take i lines)) (sym own_is) facts

    pub own_word : T (is_word Schedule own)
    own_word = own_facts.word

    module _ (a : ℕ) (first : a ≡ first_operand own) where
      pub first_below : a < 1792
      unfolding first_operand
      first_below =
          let below : get_or (operands own) 0 0 < 1792 =
          operand_below (take i lines) 1792 (omega (arith, before_long, room)) (omega arith) (operands own) own_facts.usable 0 in
          omega (arith, first, below)

      line_right : (keeps : KeepsRules h lines) → Right h keeps.level i own (get_or levels a 0)
      line_right keeps =
          let l : get_or levels (first_operand own) 0 ≡ get_or levels a 0 = ap (λ (b : ℕ). get_or levels b 0) (sym first) in
          subst (Right h keeps.level i own) l
          (right h keeps.scale keeps.level (take i lines) i levels (k.known keeps) own own_facts
          (subst (Rule h keeps.scale keeps.level i) (line_is ∙ sym own_is) (keeps.rules i inside)))

      pub on_level : OnLevel h own (get_or levels a 0)
      on_level =
          record {
            header_range = header_ranged;
            word = own_facts.word;
            range = own_facts.range;
            low = (line_right k.table.keeps).low;
            high = k.small a;
          }

      module _ (per : ℕ) (priced : per ≡ per_level lines own) (low : per ≤ 40) (starts : ℕ) (are : starts ≡ summed_starts own (get_or levels a 0)) (few : starts ≤ 3600) where
        cost : per * starts ≤ 144000
        cost = mul-le-mul low few

        pub cost_fits : Fits w32 (per * starts)
        cost_fits = record { fits = omega (arith, cost) }

        pub price_fits : Fits w32 (total + per * starts)
        price_fits = record { fits = omega (arith, cost, k.low, room) }

        cost_is : (keeps : KeepsRules h lines) → per * starts ≡ line_price lines keeps.level own
        cost_is keeps = ap₂ (λ (m s : ℕ). m * s) priced (are ∙ (line_right keeps).starts)

        so_far_then : (keeps : KeepsRules h lines) → total + per * starts ≡ price_to lines keeps.level (i + 1)
        so_far_then keeps =
            let f = line_price lines keeps.level in
            ap₂ (λ (m s : ℕ). m + s) (k.so_far keeps) (cost_is keeps ∙ ap f (own_is ∙ sym line_is))
            ∙ sym (sum_append (map f (take i lines)) (f (get_or lines i Free)))
            ∙ ap summed (sym (map_append f (take i lines) (get_or lines i Free)))
            ∙ ap (λ (l : List Line). summed (map f l)) (sym (take-suc lines i Free inside) ∙ ap (λ (m : ℕ). take m lines) (sym (add-one i)))

        module _ (after : ℕ) (after_is : after ≡ level_after h own (get_or levels a 0)) (after_small : after ≤ 60) where
          known_then : (keeps : KeepsRules h lines) (b : ℕ) → has_level (kind_at (take (i + 1) lines) b) → get_or (set levels i after) b 0 ≡ keeps.level b
          known_then keeps b has = ⊎_elim earlier here (below_or_not b i)
            where
              there : b < i + 1
              there =
                  let below = usable_below (take (i + 1) lines) b (level_usable (kind_at (take (i + 1) lines) b) has) in
                  omega (arith, below, length-take-le (i + 1) lines (omega (arith, lines_long)))

              has_itself : has_level (kind_of (get_or lines b Free))
              has_itself = subst (λ (y : Line). has_level (kind_of y)) (get_or-take (i + 1) lines b Free there) has

              earlier : b < i → get_or (set levels i after) b 0 ≡ keeps.level b
              earlier below =
                  get_or-set_other levels i b after 0 (λ same. omega arith)
                  ∙ k.known keeps b (subst (λ (y : Line). has_level (kind_of y)) (sym (get_or-take i lines b Free below)) has_itself)

              here : i ≤ b → get_or (set levels i after) b 0 ≡ keeps.level b
              here up =
                  let same : b ≡ i = omega (arith, there) in
                  let has_own : has_level (kind_of own) = subst (λ (y : Line). has_level (kind_of y)) (ap (λ (m : ℕ). get_or lines m Free) same ∙ line_is ∙ sym own_is) has_itself in
                  ap (λ (m : ℕ). get_or (set levels i after) m 0) same ∙ get_or-set_same levels i after 0 (omega (arith, k.wide, room))
                  ∙ after_is ∙ (line_right keeps).after has_own ∙ ap keeps.level (sym same)

          pub line_priced : Pricing h records count (set levels i after) (total + per * starts) (i + 1)
          line_priced =
              record {
                table = k.table;
                wide = length-set levels i after ∙ k.wide;
                within = omega arith;
                small = set_most levels i after 60 k.small after_small;
                low = omega (arith, k.low, cost);
                known = known_then;
                so_far = so_far_then;
              }

-- a level has 16 bits
pub level_fits : (n : ℕ) → n ≤ 60 → Fits w16 n
level_fits n small = record { fits = omega arith }

pub ruleset price_laws = (
  rules,
  start,
  records_within,
  level_wide,
  record_there,
  room,
  own_word,
  first_below,
  on_level,
  level_fits,
  cost_fits,
  price_fits,
  line_priced,
  all_priced,
)
