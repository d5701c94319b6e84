-- How the vacant entries of a vector are linked, and how many more values it has memory for.
use Rattle.std.specs.Prelude.{◌≡◌, ℕ, zero, suc, ◌+◌, ◌≤◌, List, map, length, Option, Some, None, is_some, count_by, slice_get, Vec, vec_capacity}
use Rattle.std.specs.declared.alloc.Global.{Global}
use Rattle.node_pool.specs.declared.slots.Entry.{Entry}
use Rattle.node_pool.specs.declared.slots.Entry.TheVariants.{Vacant, Occupied}

module _ {T : Type 0} where
  -- the value of an entry, if it has one
  abbrev pub value_of : Entry T → Option T
  value_of (Vacant _) = None
  value_of (Occupied value) = Some value

  -- from this number on so many vacant entries each name the next one, and the last names the number behind the last entry
  abbrev pub AreVacant : List (Entry T) → ℕ → ℕ → Type 0
  AreVacant es zero n = n ≡ length es
  AreVacant es (suc count) n = (next : ℕ) × (slice_get es n ≡ Some (Vacant next)) × AreVacant es count next

  -- so many entries have a value, and all others are linked from `next` on
  pub record IsLinked (es : List (Entry T)) (live next : ℕ) : Type 0 where
    pub counted : live ≡ count_by is_some (map value_of es)
    pub vacant : ℕ
    pub total : live + vacant ≡ length es
    pub linked : AreVacant es vacant next

  -- besides, the vector has memory for as many more values as were promised a slot
  pub record AreSlots (es : Vec (Entry T) Global) (live next spare : ℕ) : Type 0 where
    pub linked : IsLinked es.items live next
    pub room : live + spare ≤ vec_capacity es
