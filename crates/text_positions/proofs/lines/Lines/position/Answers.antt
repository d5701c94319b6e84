use Rattle.std.proofs.Common.{◌≡◌, ℕ, ◌+◌, ◌-◌, ◌<◌, ◌≤◌, length, length-drop, get_or, slice_get, drop, sym, ap, ◌∙◌, subst, arith}
use Rattle.std.proofs.lemmas.List.Elements.{All-same}
use Rattle.std.specs.List.Sorted.{IsNonDecreasing}
use Rattle.std.specs.Char.{len_utf8}
use Rattle.std.specs.Str.{IsCharBoundary}
use Rattle.ls_base.specs.declared.places.Pos.{Pos}
use Rattle.ls_base.specs.Positions.{units_of, bytes_within, units_within}
use Rattle.ls_base.specs.declared.encoding.Encoding.TheVariants.{Utf8}
use Rattle.text_positions.specs.Lines.{line_starts}
use Rattle.text_positions.specs.Marks.{IsMark, InOrder}
use Rattle.text_positions.specs.Table.{Table}
use Rattle.text_positions.specs.Walks.{IsLineAt, first_line}
use Rattle.text_positions.proofs.Cuts.{IsLineStart, line_start}
use Rattle.text_positions.proofs.MarkWalks.{mark_known, units_few, units_on}
use Rattle.text_positions.proofs.ShortWalks.{table_walk, bytes_utf8}
use Rattle.text_positions.proofs.Places.{position_of-start, line_starts-rise, length-line_starts, first_start, start_read}
use Rattle.text_positions.proofs.lines.Lines.position.Goals as goal
use Rattle.text_positions.proofs.lines.Lines.position.Goals.{After-mark_within-mark}

pub line_at-line-requires-clause-first : goal.line_at-line-requires-clause-first
line_at-line-requires-clause-first c =
    ap (λ xs. slice_get xs 0) (c.deref.ensures.value ∙ ap (λ (t : Table). t.starts) c.self.view_is ∙ c.requires.starts) ∙ first_start c.args.text.now

pub line_at-line-requires-clause-rise : goal.line_at-line-requires-clause-rise
line_at-line-requires-clause-rise c =
    subst IsNonDecreasing (sym (c.deref.ensures.value ∙ ap (λ (t : Table). t.starts) c.self.view_is ∙ c.requires.starts)) (line_starts-rise c.args.text.now)

pub overflow_cast-result : goal.overflow_cast-result
overflow_cast-result c =
    omega (arith, c.line_at-line.ensures.there, ap length (c.deref.ensures.value ∙ ap (λ (t : Table). t.starts) c.self.view_is ∙ c.requires.starts), length-line_starts c.args.text.now c.utf8.text, c.requires.short)

-- the start of the line, as it was read
at_start : (c : After-mark_within-mark) → c.index-start.result.now ≡ get_or (line_starts c.args.text.now) c.line_at-line.result 0
at_start c = start_read c.self.inside.starts.items c.args.text.now _ _ (ap (λ (t : Table). t.starts) c.self.view_is ∙ c.requires.starts) (omega (arith, ap length c.deref.ensures.value, c.line_at-line.ensures.there)) c.index-start.ensures

found : (c : After-mark_within-mark) → IsLineAt (line_starts c.args.text.now) c.args.offset c.line_at-line.result
found c = subst (λ xs. IsLineAt xs c.args.offset c.line_at-line.result) (c.deref.ensures.value ∙ ap (λ (t : Table). t.starts) c.self.view_is ∙ c.requires.starts) c.line_at-line.ensures

-- the mark that was found is one of the text
mark : (c : After-mark_within-mark) → IsMark c.args.text.now c.mark_within-mark.result
mark c =
    let line : IsLineAt (line_starts c.args.text.now) c.args.offset c.line_at-line.result = found c in
    let there : IsLineStart c.args.text.now c.line_at-line.result (get_or (line_starts c.args.text.now) c.line_at-line.result 0) = line_start c.args.text.now c.line_at-line.result c.utf8.text line.there in
    mark_known c.args.text.now c.deref-2.result.now c.index-start.result.now c.mark_within-mark.result
    (All-same (IsMark c.args.text.now) _ _ (c.deref-2.ensures.value ∙ ap (λ (t : Table). t.marks) c.self.view_is) c.requires.marks)
    (subst (IsCharBoundary c.args.text.now) (sym (at_start c)) there.boundary)
    c.mark_within-mark.ensures.known

pub mark_within-mark-requires : goal.mark_within-mark-requires
mark_within-mark-requires c = subst InOrder (sym (c.deref-2.ensures.value ∙ ap (λ (t : Table). t.marks) c.self.view_is)) c.requires.order

pub range_from-requires : goal.range_from-requires
range_from-requires c = λ some.
    let m : IsMark c.args.text.now c.mark_within-mark.result = mark (goal.at.range_from-requires c).After-mark_within-mark in
    subst (IsCharBoundary c.args.text.now) (sym c.at-at.ensures) m.boundary

pub units_in_line-units-requires-clause-walk : goal.units_in_line-units-requires-clause-walk
units_in_line-units-requires-clause-walk c =
    let line : IsLineAt (line_starts c.args.text.now) c.args.offset c.line_at-line.result = found (goal.at.units_in_line-units-requires-clause-walk c).After-mark_within-mark in
    let short : bytes_within (units_of Utf8) (c.args.offset - c.index-start.result.now - c.mark_within-mark.result.utf8) (first_line (drop (c.mark_within-mark.result.start + c.mark_within-mark.result.utf8) c.args.text.now)) < 256 =
    table_walk Utf8 c.args.text.now c.args.self.now c.deref-2.result.now c.line_at-line.result c.index-start.result.now c.mark_within-mark.result (c.args.offset - c.index-start.result.now) c.requires
    (c.deref-2.ensures.value ∙ ap (λ (t : Table). t.marks) c.self.view_is)
    line.there
    (at_start (goal.at.units_in_line-units-requires-clause-walk c).After-mark_within-mark)
    (mark (goal.at.units_in_line-units-requires-clause-walk c).After-mark_within-mark)
    c.mark_within-mark.ensures.line c.mark_within-mark.ensures.within c.mark_within-mark.ensures.last in
    let rest : c.range_from.result.now ≡ drop (c.mark_within-mark.result.start + c.mark_within-mark.result.utf8) c.args.text.now = c.range_from.ensures.value ∙ ap (λ n. drop n c.args.text.now) c.at-at.ensures in
    let left : c.args.offset - c.at-at.result ≡ c.args.offset - c.index-start.result.now - c.mark_within-mark.result.utf8 = omega (arith, c.at-at.ensures, c.mark_within-mark.ensures.line) in
    omega (
      arith,
      short,
      bytes_utf8 (c.args.offset - c.index-start.result.now - c.mark_within-mark.result.utf8) (first_line (drop (c.mark_within-mark.result.start + c.mark_within-mark.result.utf8) c.args.text.now)),
      ap (λ n. bytes_within len_utf8 n (first_line c.range_from.result.now)) left,
      ap (λ t. bytes_within len_utf8 (c.args.offset - c.index-start.result.now - c.mark_within-mark.result.utf8) (first_line t)) rest,
    )

pub overflow_add-result : goal.overflow_add-result
overflow_add-result c =
    let m : IsMark c.args.text.now c.mark_within-mark.result = mark (goal.at.overflow_add-result c).After-mark_within-mark in
    let before : c.units.result ≤ c.mark_within-mark.result.utf8 = omega (arith, c.units.ensures, units_few c.args.encoding c.mark_within-mark.result _ _ m.counts) in
    omega (arith, before, c.units_in_line-units.ensures.few, ap length c.range_from.ensures.value, length-drop c.at-at.result c.args.text.now, c.at-at.ensures, m.boundary.0, c.requires.short)

pub returns : goal.returns
returns c =
    let m : IsMark c.args.text.now c.mark_within-mark.result = mark (goal.at.returns c).After-mark_within-mark in
    let line : c.mark_within-mark.result.start ≡ get_or (line_starts c.args.text.now) c.line_at-line.result 0 = c.mark_within-mark.ensures.line ∙ at_start (goal.at.returns c).After-mark_within-mark in
    let place : ℕ → Pos = λ n. record { line = c.line_at-line.result; character = n } in
    let here : ℕ → ℕ = λ start. units_within (units_of c.args.encoding) (c.args.offset - start) (first_line (drop start c.args.text.now)) in
    let rest : c.range_from.result.now ≡ drop (c.mark_within-mark.result.start + c.mark_within-mark.result.utf8) c.args.text.now = c.range_from.ensures.value ∙ ap (λ n. drop n c.args.text.now) c.at-at.ensures in
    let left : c.args.offset - c.at-at.result ≡ c.args.offset - c.mark_within-mark.result.start - c.mark_within-mark.result.utf8 = omega (arith, c.at-at.ensures) in
    let walked : c.units_in_line-units.result ≡ units_within (units_of c.args.encoding) (c.args.offset - c.mark_within-mark.result.start - c.mark_within-mark.result.utf8) (first_line (drop (c.mark_within-mark.result.start + c.mark_within-mark.result.utf8) c.args.text.now)) =
    c.units_in_line-units.ensures.units
    ∙ ap (λ n. units_within (units_of c.args.encoding) n (first_line c.range_from.result.now)) left
    ∙ ap (λ t. units_within (units_of c.args.encoding) (c.args.offset - c.mark_within-mark.result.start - c.mark_within-mark.result.utf8) (first_line t)) rest in
    let on = units_on c.args.encoding c.mark_within-mark.result _ _ (c.args.offset - c.mark_within-mark.result.start) m.counts (omega (arith, c.mark_within-mark.ensures.within, c.mark_within-mark.ensures.line)) in
    let all : c.units.result + c.units_in_line-units.result ≡ here c.mark_within-mark.result.start = omega (arith, c.units.ensures, walked, on) in
    ap place (all ∙ ap here line)
    ∙ sym (position_of-start c.args.encoding c.args.text.now c.args.offset c.line_at-line.result c.utf8.text (found (goal.at.returns c).After-mark_within-mark))
