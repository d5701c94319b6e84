-- Where nodes stand in texts.
use Rattle.std.specs.Prelude.{Option}
use Rattle.scheme_model.specs.declared.Occ.{Occ}
use Rattle.syntax_tree.specs.Nodes.{Shape, leaf_shape, list_shape, vector_shape}

-- where a node stands, if it was read from a text
abbrev pub place_in : Shape → Option Occ
place_in (leaf_shape leaf o) = o
place_in (list_shape items end o) = o
place_in (vector_shape items o) = o

-- the same node at this place
abbrev pub placed_at : Option Occ → Shape → Shape
placed_at p (leaf_shape leaf o) = leaf_shape leaf p
placed_at p (list_shape items end o) = list_shape items end p
placed_at p (vector_shape items o) = vector_shape items p
