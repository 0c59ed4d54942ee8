-- Lines of a text. A place counts bytes from 0.
use Rattle.std.specs.Prelude.{◌≡◌, ◌≢◌, ◌≤◌, ◌<◌, ◌-◌, ℕ, List, length, slice_index, slice_range}
use Rattle.std.specs.Str.Lines.{strip_carriage_return}

abbrev pub line_feed : ℕ
line_feed = 10

-- A line may start here: at the start of the text, or behind a line feed.
abbrev pub IsLineStart : List ℕ → ℕ → Type 0
IsLineStart text at = 0 < at → at ≤ length text → slice_index text (at - 1) ≡ line_feed

-- What starts at `from` goes on, without a line feed, to the next one or to the end of the text.
pub record EndsLine (text : List ℕ) (from to : ℕ) : Type 0 where
  pub within : to ≤ length text
  pub whole : (k : ℕ) → from ≤ k → k < to → slice_index text k ≢ line_feed
  pub stops : to < length text → slice_index text to ≡ line_feed

-- A line: the bytes between two line feeds, or from the start, or to the end of the text.
pub record IsLine (text : List ℕ) (from to : ℕ) : Type 0 where
  pub ordered : from ≤ to
  pub starts : IsLineStart text from
  pub ends : EndsLine text from to

-- A line that is the name, once a carriage return at its end is dropped.
pub record Says (name text : List ℕ) (from to : ℕ) : Type 0 where
  pub line : IsLine text from to
  pub same : strip_carriage_return (slice_range text from to) ≡ name

-- The first line that says the name, among those that start at `start` or later.
pub record IsFirst (name text : List ℕ) (start from to : ℕ) : Type 0 where
  pub behind : start ≤ from
  pub says : Says name text from to
  pub first : (f t : ℕ) → start ≤ f → Says name text f t → from ≤ f
