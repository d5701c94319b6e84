use Rattle.std.proofs.Common.{Bool, sym, ap, ◌∙◌}
use Rattle.std.specs.Prelude.{if◌then◌else◌}
use Rattle.scheme_model.specs.Spelling.{is_member}
use Rattle.scheme_model.specs.Accesses.{written_in, read_in}
use Rattle.arrow_index.proofs.AccessLaws.{found_among}
use Rattle.arrow_index.proofs.index.Index.kind_of.Goals as goal

pub returns-then-is_among_sorted : goal.returns-then-is_among_sorted
returns-then-is_among_sorted c = λ all p is.
    let o = c.args.occ in
    let written = sym c.if-is_among_sorted.true ∙ found_among c.as_slice.result.now c.args.self.now.written (written_in p) o c.as_slice.ensures is.written c.is_among_sorted.result c.is_among_sorted.ensures in
    ap (λ (b : Bool). if b then 3 else if is_member (read_in p) o then 2 else 1) written

pub returns-then-is_among_sorted-2 : goal.returns-then-is_among_sorted-2
returns-then-is_among_sorted-2 c = λ all p is.
    let o = c.args.occ in
    let written = sym c.if-is_among_sorted.false ∙ found_among c.as_slice.result.now c.args.self.now.written (written_in p) o c.as_slice.ensures is.written c.is_among_sorted.result c.is_among_sorted.ensures in
    let read = sym c.if-is_among_sorted-2.true ∙ found_among c.as_slice-2.result.now c.args.self.now.read (read_in p) o c.as_slice-2.ensures is.read c.is_among_sorted-2.result c.is_among_sorted-2.ensures in
    ap (λ (b : Bool). if b then 2 else 1) read ∙ ap (λ (b : Bool). if b then 3 else if is_member (read_in p) o then 2 else 1) written

pub returns : goal.returns
returns c = λ all p is.
    let o = c.args.occ in
    let written = sym c.if-is_among_sorted.false ∙ found_among c.as_slice.result.now c.args.self.now.written (written_in p) o c.as_slice.ensures is.written c.is_among_sorted.result c.is_among_sorted.ensures in
    let read = sym c.if-is_among_sorted-2.false ∙ found_among c.as_slice-2.result.now c.args.self.now.read (read_in p) o c.as_slice-2.ensures is.read c.is_among_sorted-2.result c.is_among_sorted-2.ensures in
    ap (λ (b : Bool). if b then 2 else 1) read ∙ ap (λ (b : Bool). if b then 3 else if is_member (read_in p) o then 2 else 1) written
