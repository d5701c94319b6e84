pub mod QuasiMarks  -- Marks of a quasiquotation by number
pub mod QuasiReads  -- A reading of a quasiquotation asks only of the identifiers that stand in it, and its nodes are those outside its holes and those of what stands in the holes
pub mod LeafLaws  -- Leaves that are no identifier are atoms at their places, and identifiers of the table by what the code has of them
pub mod SeenLaws  -- What takes effect while forms are gone through, what a record defines, and where its fields stand
