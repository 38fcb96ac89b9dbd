-- What takes texts, one after another: a buffer that is lent, or a count of bytes.
use Rattle.std.specs.Prelude.{[], ◌+◌, ◌++◌, ◌≡◌, length, take, drop}
use Rattle.fields.specs.Pieces.{Bytes}
use Rattle.spelling.specs.declared.sinks.Buffer.{Buffer}

-- What S owes, where `can_take s x` says that s has room for the text x, and `took s x t` that s took x and is t from then on.
pub record SinkLaws {S : Type 0} (can_take : S → Bytes → Type 0) (took : S → Bytes → S → Type 0) : Type 0 where
  pub nothing : (s : S) → took s [] s
  pub both : (s t u : S) (x y : Bytes) → took s x t → took t y u → took s (x ++ y) u
  pub first_room : (s : S) (x y : Bytes) → can_take s (x ++ y) → can_take s x
  pub next_room : (s t : S) (x y : Bytes) → can_take s (x ++ y) → took s x t → can_take t y

-- A buffer that is lent took a text at its place: the text follows what stood before the place, and past the text stands what stood there.
pub record Filled (before : Buffer) (text : Bytes) (after : Buffer) : Type 0 where
  pub same_buffer : after.bytes.ghost_name ≡ before.bytes.ghost_name
  pub same_length : length after.bytes.now ≡ length before.bytes.now
  pub place : after.at ≡ before.at + length text
  pub front : take after.at after.bytes.now ≡ take before.at before.bytes.now ++ text
  pub rest : drop after.at after.bytes.now ≡ drop after.at before.bytes.now
