-- The tree of a datum is at most one deeper than what is open while the datum is read.
use Rattle.std.proofs.Common.{◌+◌, ◌≤◌, max, arith}
use Rattle.scheme_model.specs.Data.{Datum, spelled, atom, list, vector, bytes, Data, none, row, tail_of}
use Rattle.scheme_model.specs.Numbered.{at}
use Rattle.scheme_model.specs.Written.{Written, alone, listed, tailed, vectored, byted, abbreviated, Parts, last, next, meant, parts_meant, depth, parts_depth}
use Rattle.datum_reader.proofs.Measured.{datum_depth, data_depth, one_deep}

tail_depth : (d : Datum) → data_depth (tail_of d) ≤ datum_depth d
tail_depth (atom p k) = omega arith
tail_depth (list p ds) = omega arith
tail_depth (vector p ds) = omega arith
tail_depth (bytes p texts) = omega arith

mutual
  written_depth : (w : Written) → datum_depth (meant w) ≤ depth w + 1
  written_depth (alone s leaf) = omega (arith, one_deep (at s) (spelled leaf))
  written_depth (listed a ps b) = omega (arith, parts_deep ps none)
  written_depth (tailed a g w ps dot h t i b) =
      omega (arith, written_depth w, parts_deep ps (tail_of (meant t)), tail_depth (meant t), written_depth t)
  written_depth (vectored a ps b) = omega (arith, parts_deep ps none)
  written_depth (byted a bs b) = omega arith
  written_depth (abbreviated s mark g w) = omega (arith, written_depth w)

  parts_deep : (ps : Parts) (end : Data) → data_depth (row (parts_meant ps) end) ≤ max (parts_depth ps + 1) (data_depth end)
  parts_deep (last g) end = omega arith
  parts_deep (next g w ps) end = omega (arith, written_depth w, parts_deep ps end)

pub all_depth : (ps : Parts) → data_depth (row (parts_meant ps) none) ≤ parts_depth ps + 1
all_depth ps = omega (arith, parts_deep ps none)
