use Rattle.std.proofs.Common.{Some, Ok, map, rules, arith, Vec, ap, ◌∙◌}
use Rattle.std.specs.declared.alloc.Global.{Global}
use Rattle.datum_reader.specs.declared.datum.Datum as code
use Rattle.std.specs.List.{join_with_byte}
use Rattle.std.specs.Str.{chars, encode_utf8_all}
use Rattle.scheme_model.specs.Trees.{Bytes, atom}
use Rattle.syntax_tree.specs.declared.trees.faults.PoolFault.TheVariants as fault
use Rattle.datum_reader.specs.declared.datum.Shape.TheViews.{the_lemmas}
use Rattle.scheme_model.specs.Data.{spelled, implied}
use Rattle.datum_reader.specs.Views.{leaf_of, mark_of}
use Rattle.datum_reader.specs.Seeded.{atom_tree}
use Rattle.datum_reader.specs.Seeding.{part_tree, parts_trees, tail_tree}
use Rattle.datum_reader.proofs.Growing.{put_last, node_handed_on, all_handed_on, leaf_prepared, leaf_failed, interns_keep}
use Rattle.datum_reader.proofs.Preparing.{vector_failed, vector_prepared, parts_failed, tail_failed, list_prepared}
use Rattle.datum_reader.proofs.SeedLaws.{list_parts, vector_parts, datum-atom, datum-implied, atom_whole, atom_part-size, bytes_whole, bytes-size, small_tree, shallow_tree}
use Rattle.datum_reader.proofs.Rows.{row_unbegun, row_adds, row_fails, row_unplaced}
use Rattle.datum_reader.proofs.seeding.+parts.Goals as goal

-- ---- a tree's outermost node

pub seed_datum-add-requires-clause-small : goal.seed_datum-add-requires-clause-small
seed_datum-add-requires-clause-small t c =
    let s = c.args.taken in
    let d = c.args.datum.now in
    (part_tree s.into s.home d, c.in_ok-node.ensures.3, small_tree s.into s.home d c.requires.read, shallow_tree s.into s.home d c.requires.read)

pub seed_datum-returns : goal.seed_datum-returns
seed_datum-returns t c =
    let s = c.args.taken in
    let whole = part_tree s.into s.home c.args.datum.now in
    let done = c.in_ok-add.ensures in
    put_last c.args.work.now c.seed_node.new.work c.args.region.now whole c.in_ok-node.node c.in_ok-node.ensures c.add.new.self c.in_ok-add.field-0 done.keeps done.regions done.symbols done.put done.one_more
    (done.tree whole c.in_ok-node.ensures.3) done.region

-- ---- leaves

pub seed_node-returns-in_err-atom_node-in-Atom : goal.seed_node-returns-in_err-atom_node-in-Atom
seed_node-returns-in_err-atom_node-in-Atom t c =
    let w = c.args.work.now in
    let s = c.args.taken in
    let d = c.args.datum.now in
    let r = c.args.region.now in
    let o = c.place-occ.result in
    let a = spelled (leaf_of c.in-Atom.atom) in
    let is = datum-atom d c.in-Atom.atom c.in-Atom.is in
    let names = c.atom_node.new.symbols in
    let whole = part_tree s.into s.home d in
    node_handed_on w (record { trees = w.trees; symbols = names }) r whole c.from_residual.result fault.Memory c.from_residual.ensures.1
    (leaf_failed w names r (atom_tree s.into a o) whole c.in_err-atom_node-in-Atom.field-0.0 (atom_whole s.into s.home d o a is c.place-occ.ensures)
    (atom_part-size s.into s.home d a is) c.in_err-atom_node-in-Atom.ensures)

pub seed_node-returns-in_ok-atom_node-in-Atom : goal.seed_node-returns-in_ok-atom_node-in-Atom
seed_node-returns-in_ok-atom_node-in-Atom t c =
    let w = c.args.work.now in
    let s = c.args.taken in
    let d = c.args.datum.now in
    let o = c.place-occ.result in
    let a = spelled (leaf_of c.in-Atom.atom) in
    let is = datum-atom d c.in-Atom.atom c.in-Atom.is in
    let names = c.atom_node.new.symbols in
    let leaf = atom_tree s.into a o in
    let n = c.in_ok-atom_node-in-Atom in
    leaf_prepared w names c.args.region.now leaf (part_tree s.into s.home d) n.field-0 (atom_whole s.into s.home d o a is c.place-occ.ensures)
    (atom_part-size s.into s.home d a is) (interns_keep w.symbols names leaf (Ok n.field-0) n.ensures) n.ensures

pub seed_node-returns-in_err-mark_node-in-Implied : goal.seed_node-returns-in_err-mark_node-in-Implied
seed_node-returns-in_err-mark_node-in-Implied t c =
    let w = c.args.work.now in
    let s = c.args.taken in
    let d = c.args.datum.now in
    let r = c.args.region.now in
    let o = c.place-occ.result in
    let a = implied (mark_of c.in-Implied.mark) in
    let is = datum-implied d c.in-Implied.mark c.in-Implied.is in
    let names = c.mark_node.new.symbols in
    let whole = part_tree s.into s.home d in
    node_handed_on w (record { trees = w.trees; symbols = names }) r whole c.from_residual-in_err-mark_node-in-Implied.result fault.Memory c.from_residual-in_err-mark_node-in-Implied.ensures.1
    (leaf_failed w names r (atom_tree s.into a o) whole c.in_err-mark_node-in-Implied.field-0.0 (atom_whole s.into s.home d o a is c.place-occ.ensures)
    (atom_part-size s.into s.home d a is) (c.in_err-mark_node-in-Implied.ensures o))

pub seed_node-returns-in_ok-mark_node-in-Implied : goal.seed_node-returns-in_ok-mark_node-in-Implied
seed_node-returns-in_ok-mark_node-in-Implied t c =
    let w = c.args.work.now in
    let s = c.args.taken in
    let d = c.args.datum.now in
    let o = c.place-occ.result in
    let a = implied (mark_of c.in-Implied.mark) in
    let is = datum-implied d c.in-Implied.mark c.in-Implied.is in
    let names = c.mark_node.new.symbols in
    let leaf = atom_tree s.into a o in
    let n = c.in_ok-mark_node-in-Implied in
    leaf_prepared w names c.args.region.now leaf (part_tree s.into s.home d) n.field-0 (atom_whole s.into s.home d o a is c.place-occ.ensures)
    (atom_part-size s.into s.home d a is) (interns_keep w.symbols names leaf (Ok n.field-0) (n.ensures o)) (n.ensures o)

pub seed_node-returns-in_err-bytes_node-in-Bytes : goal.seed_node-returns-in_err-bytes_node-in-Bytes
seed_node-returns-in_err-bytes_node-in-Bytes t c =
    let w = c.args.work.now in
    let s = c.args.taken in
    let d = c.args.datum.now in
    let r = c.args.region.now in
    let o = c.place-occ.result in
    let xs = c.in-Bytes.numerals in
    let names = c.bytes_node.new.symbols in
    let whole = part_tree s.into s.home d in
    let leaf = atom (Bytes (join_with_byte 32 (map encode_utf8_all (map chars c.deref.result.now)))) (Some o) in
    node_handed_on w (record { trees = w.trees; symbols = names }) r whole c.from_residual-in_err-bytes_node-in-Bytes.result fault.Memory c.from_residual-in_err-bytes_node-in-Bytes.ensures.1
    (leaf_failed w names r leaf whole c.in_err-bytes_node-in-Bytes.field-0.0 (bytes_whole s.into s.home d o xs c.deref.result.now c.in-Bytes.is c.deref.ensures.value c.place-occ.ensures)
    (bytes-size s.into s.home d xs c.in-Bytes.is) c.in_err-bytes_node-in-Bytes.ensures)

pub seed_node-returns-in_ok-bytes_node-in-Bytes : goal.seed_node-returns-in_ok-bytes_node-in-Bytes
seed_node-returns-in_ok-bytes_node-in-Bytes t c =
    let w = c.args.work.now in
    let s = c.args.taken in
    let d = c.args.datum.now in
    let o = c.place-occ.result in
    let xs = c.in-Bytes.numerals in
    let names = c.bytes_node.new.symbols in
    let leaf = atom (Bytes (join_with_byte 32 (map encode_utf8_all (map chars c.deref.result.now)))) (Some o) in
    let n = c.in_ok-bytes_node-in-Bytes in
    leaf_prepared w names c.args.region.now leaf (part_tree s.into s.home d) n.field-0 (bytes_whole s.into s.home d o xs c.deref.result.now c.in-Bytes.is c.deref.ensures.value c.place-occ.ensures)
    (bytes-size s.into s.home d xs c.in-Bytes.is) (interns_keep w.symbols names leaf (Ok n.field-0) n.ensures) n.ensures

-- ---- vectors

pub seed_node-seed_parts-requires : goal.seed_node-seed_parts-requires
seed_node-seed_parts-requires t c =
    let s = c.args.taken in
    let p = vector_parts s.into s.home c.args.datum.now c.place-occ.result c.in-Vector.parts c.as_slice.result.now c.in-Vector.is (c.as_slice.ensures.value ∙ ap (λ (v : Vec code.Datum Global). v.items) c.deref-in-Vector.ensures) c.place-occ.ensures c.requires.read in
    let seen = (c.as_slice.ensures.value ∙ ap (λ (v : Vec code.Datum Global). v.items) c.deref-in-Vector.ensures) in
    (first_of (search (rules, the_lemmas), search (rules, the_lemmas, c.in-Vector.is, seen), grind (arith, the_lemmas)), (c.requires.region, p.parts))

pub seed_node-returns-in_err-items-in-Vector : goal.seed_node-returns-in_err-items-in-Vector
seed_node-returns-in_err-items-in-Vector t c =
    let w = c.args.work.now in
    let s = c.args.taken in
    let d = c.args.datum.now in
    let ds = c.as_slice.result.now in
    let o = c.place-occ.result in
    let p = vector_parts s.into s.home d o c.in-Vector.parts ds c.in-Vector.is (c.as_slice.ensures.value ∙ ap (λ (v : Vec code.Datum Global). v.items) c.deref-in-Vector.ensures) c.place-occ.ensures c.requires.read in
    let whole = part_tree s.into s.home d in
    let e = c.in_err-items-in-Vector.field-0.0 in
    node_handed_on w c.seed_parts.new.work c.args.region.now whole c.from_residual-in_err-items-in-Vector.result e c.from_residual-in_err-items-in-Vector.ensures.1
    (vector_failed w c.seed_parts.new.work c.args.region.now (parts_trees s.into s.home ds) (Some o) whole p.whole e c.in_err-items-in-Vector.ensures)

pub seed_node-returns-in_ok-items-in-Vector : goal.seed_node-returns-in_ok-items-in-Vector
seed_node-returns-in_ok-items-in-Vector t c =
    let w = c.args.work.now in
    let s = c.args.taken in
    let d = c.args.datum.now in
    let ds = c.as_slice.result.now in
    let o = c.place-occ.result in
    let p = vector_parts s.into s.home d o c.in-Vector.parts ds c.in-Vector.is (c.as_slice.ensures.value ∙ ap (λ (v : Vec code.Datum Global). v.items) c.deref-in-Vector.ensures) c.place-occ.ensures c.requires.read in
    let done = c.in_ok-items-in-Vector.ensures in
    vector_prepared w c.seed_parts.new.work c.args.region.now (parts_trees s.into s.home ds) (Some o) (part_tree s.into s.home d) p.whole c.in_ok-items-in-Vector.items done.0 done.1 done.2

-- ---- lists

pub seed_node-seed_parts-requires-in-List : goal.seed_node-seed_parts-requires-in-List
seed_node-seed_parts-requires-in-List t c =
    let s = c.args.taken in
    let p = list_parts s.into s.home c.args.datum.now c.place-occ.result c.in-List.parts c.as_slice-in-List.result.now c.in-List.end c.in-List.is (c.as_slice-in-List.ensures.value ∙ ap (λ (v : Vec code.Datum Global). v.items) c.deref-in-List.ensures) c.place-occ.ensures c.requires.read in
    let seen = (c.as_slice-in-List.ensures.value ∙ ap (λ (v : Vec code.Datum Global). v.items) c.deref-in-List.ensures) in
    (first_of (search (rules, the_lemmas), search (rules, the_lemmas, c.in-List.is, seen), grind (arith, the_lemmas)), (c.requires.region, p.parts))

pub seed_node-returns-in_err-items-in-List : goal.seed_node-returns-in_err-items-in-List
seed_node-returns-in_err-items-in-List t c =
    let w = c.args.work.now in
    let s = c.args.taken in
    let d = c.args.datum.now in
    let ds = c.as_slice-in-List.result.now in
    let o = c.place-occ.result in
    let p = list_parts s.into s.home d o c.in-List.parts ds c.in-List.end c.in-List.is (c.as_slice-in-List.ensures.value ∙ ap (λ (v : Vec code.Datum Global). v.items) c.deref-in-List.ensures) c.place-occ.ensures c.requires.read in
    let whole = part_tree s.into s.home d in
    let e = c.in_err-items-in-List.field-0.0 in
    node_handed_on w c.seed_parts-in-List.new.work c.args.region.now whole c.from_residual-in_err-items-in-List.result e c.from_residual-in_err-items-in-List.ensures.1
    (parts_failed w c.seed_parts-in-List.new.work c.args.region.now (parts_trees s.into s.home ds) (tail_tree s.into s.home c.in-List.end) (Some o) whole p.whole e c.in_err-items-in-List.ensures)

pub seed_node-seed_tail-requires : goal.seed_node-seed_tail-requires
seed_node-seed_tail-requires t c =
    let s = c.args.taken in
    let d = c.args.datum.now in
    let ds = c.as_slice-in-List.result.now in
    let p = list_parts s.into s.home d c.place-occ.result c.in-List.parts ds c.in-List.end c.in-List.is (c.as_slice-in-List.ensures.value ∙ ap (λ (v : Vec code.Datum Global). v.items) c.deref-in-List.ensures) c.place-occ.ensures c.requires.read in
    (first_of (search (rules, the_lemmas), search (rules, the_lemmas, c.in-List.is), grind (arith, the_lemmas)), (c.in_ok-items-in-List.ensures.0.grows.trees.regions c.args.region.now c.requires.region, p.tail))

pub seed_node-returns-in_err-tail-in-List : goal.seed_node-returns-in_err-tail-in-List
seed_node-returns-in_err-tail-in-List t c =
    let w = c.args.work.now in
    let s = c.args.taken in
    let d = c.args.datum.now in
    let ds = c.as_slice-in-List.result.now in
    let o = c.place-occ.result in
    let p = list_parts s.into s.home d o c.in-List.parts ds c.in-List.end c.in-List.is (c.as_slice-in-List.ensures.value ∙ ap (λ (v : Vec code.Datum Global). v.items) c.deref-in-List.ensures) c.place-occ.ensures c.requires.read in
    let whole = part_tree s.into s.home d in
    let e = c.in_err-tail-in-List.field-0.0 in
    node_handed_on w c.seed_tail.new.work c.args.region.now whole c.from_residual-in_err-tail-in-List.result e c.from_residual-in_err-tail-in-List.ensures.1
    (tail_failed w c.seed_parts-in-List.new.work c.args.region.now (parts_trees s.into s.home ds) (tail_tree s.into s.home c.in-List.end) (Some o) whole p.whole c.seed_tail.new.work
    c.in_ok-items-in-List.ensures.0 e c.in_err-tail-in-List.ensures)

pub seed_node-returns-in_ok-tail-in-List : goal.seed_node-returns-in_ok-tail-in-List
seed_node-returns-in_ok-tail-in-List t c =
    let w = c.args.work.now in
    let s = c.args.taken in
    let d = c.args.datum.now in
    let ds = c.as_slice-in-List.result.now in
    let o = c.place-occ.result in
    let p = list_parts s.into s.home d o c.in-List.parts ds c.in-List.end c.in-List.is (c.as_slice-in-List.ensures.value ∙ ap (λ (v : Vec code.Datum Global). v.items) c.deref-in-List.ensures) c.place-occ.ensures c.requires.read in
    let items = c.in_ok-items-in-List.ensures in
    let last = c.in_ok-tail-in-List.ensures in
    list_prepared w c.seed_parts-in-List.new.work c.args.region.now (parts_trees s.into s.home ds) (tail_tree s.into s.home c.in-List.end) (Some o) (part_tree s.into s.home d) p.whole
    c.seed_tail.new.work items.0 c.in_ok-items-in-List.items c.in_ok-tail-in-List.tail items.1 items.2 last.0 last.1 last.2

-- ---- parts

pub seed_parts-returns-in_err-trees : goal.seed_parts-returns-in_err-trees
seed_parts-returns-in_err-trees t c =
    let w = c.args.work.now in
    let s = c.args.taken in
    let ds = c.args.parts.now in
    all_handed_on w w c.args.region.now (parts_trees s.into s.home ds) c.from_residual.result fault.Memory c.from_residual.ensures.1 (row_unbegun (part_tree s.into s.home) w c.args.region.now ds)

pub seed_parts-returns-in_err-tree : goal.seed_parts-returns-in_err-tree
seed_parts-returns-in_err-tree t c =
    let w = c.args.work.now in
    let s = c.args.taken in
    let ds = c.args.parts.now in
    let l = c.loop-part in
    let e = c.in_err-tree.field-0.0 in
    all_handed_on w c.seed_datum.new.work c.args.region.now (parts_trees s.into s.home ds) c.from_residual-in_err-tree.result e c.from_residual-in_err-tree.ensures.1
    (row_fails (part_tree s.into s.home) w l.work c.seed_datum.new.work c.args.region.now ds l.part-index c.part-item.result l.trees.items (omega arith) c.part-item.is l.invariant e c.in_err-tree.ensures)

pub seed_parts-returns-in_err-push : goal.seed_parts-returns-in_err-push
seed_parts-returns-in_err-push t c =
    let w = c.args.work.now in
    let s = c.args.taken in
    let ds = c.args.parts.now in
    let l = c.loop-part in
    all_handed_on w c.seed_datum.new.work c.args.region.now (parts_trees s.into s.home ds) c.from_residual-in_err-push.result fault.Memory c.from_residual-in_err-push.ensures.1
    (row_unplaced (part_tree s.into s.home) w l.work c.seed_datum.new.work c.args.region.now ds l.part-index c.part-item.result l.trees.items (omega arith) c.part-item.is l.invariant c.in_ok-tree.ensures.0)

pub seed_parts-loop-part-preserved : goal.seed_parts-loop-part-preserved
seed_parts-loop-part-preserved t c =
    let s = c.args.taken in
    let l = c.loop-part in
    row_adds (part_tree s.into s.home) c.args.work.now l.work c.seed_datum.new.work c.args.region.now c.args.parts.now l.part-index c.part-item.result l.trees.items (omega arith) c.part-item.is l.invariant
    c.push.new.self.items c.in_ok-tree.tree c.in_ok-tree.ensures c.in_ok-push.ensures.items
