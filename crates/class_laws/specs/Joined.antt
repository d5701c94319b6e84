-- Which occurrences links join, over others or not.
use Rattle.std.specs.Prelude.{◌≡◌, ◌⊎◌, List}
use Rattle.scheme_model.specs.declared.Occ.{Occ}
use Rattle.scheme_model.specs.Entries.{At}
use Rattle.scheme_model.specs.Spelling.{Link}
use Rattle.program_leaves.specs.Members.{IsIn}

-- these are the ends of a link, either way round
abbrev pub HasEnds : Link → Occ → Occ → Type 0
HasEnds l p q = ((l.origin ≡ At p) × (l.target ≡ q)) ⊎ ((l.origin ≡ At q) × (l.target ≡ p))

-- an occurrence is joined to itself, and with one end of a link to the other
pub data AreJoined (ls : List Link) (o : Occ) : Occ → Type 0 where
  itself : AreJoined ls o o
  over : (l : Link) (p q : Occ) → AreJoined ls o p → IsIn l ls → HasEnds l p q → AreJoined ls o q
