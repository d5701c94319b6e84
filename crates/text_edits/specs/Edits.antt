-- New text for some bytes of a text.
use Rattle.std.specs.Prelude.{ℕ, ◌-◌, ◌<◌, ◌≤◌, List, [], ◌∷◌, ◌++◌, take, drop}

-- new text for the bytes from one place up to another
pub record Edit : Type 0 where
  pub start : ℕ
  pub end : ℕ
  pub text : List ℕ

-- the bytes from a place on with new text for some, which stand one behind another
abbrev pub edited_from : ℕ → List Edit → List ℕ → List ℕ
edited_from at [] bytes = bytes
edited_from at (e ∷ es) bytes = take (e.start - at) bytes ++ (e.text ++ edited_from e.end es (drop (e.end - at) bytes))

abbrev pub edited : List Edit → List ℕ → List ℕ
edited es bytes = edited_from 0 es bytes

-- each is for some bytes, none of them before this place or of another, and none behind the other place
abbrev pub AreInOrder : ℕ → List Edit → ℕ → Type 0
AreInOrder from [] to = from ≤ to
AreInOrder from (e ∷ es) to = (from ≤ e.start) × (e.start < e.end) × AreInOrder e.end es to
