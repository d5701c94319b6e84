use Rattle.std.proofs.Common.{◌≡◌, ◌+◌, ◌-◌, ◌<◌, length, get_or, drop, sym, ap, ◌∙◌, subst, arith}
use Rattle.std.proofs.lemmas.List.{get_or_read}
use Rattle.std.proofs.lemmas.List.Elements.{All-same}
use Rattle.std.proofs.lemmas.Str.{IsCharBoundary-from_rest}
use Rattle.std.specs.Str.{IsCharBoundary}
use Rattle.ls_base.specs.Positions.{bytes_within, units_of}
use Rattle.text_positions.specs.Lines.{line_starts}
use Rattle.text_positions.specs.Marks.{IsMark, units_before, InOrder}
use Rattle.text_positions.specs.Table.{Table}
use Rattle.text_positions.specs.Walks.{first_line}
use Rattle.text_positions.proofs.Cuts.{IsLineStart, line_start}
use Rattle.text_positions.proofs.MarkWalks.{mark_known, bytes_on}
use Rattle.text_positions.proofs.ShortWalks.{table_walk}
use Rattle.text_positions.proofs.Places.{offset_of-start, offset_of-past}
use Rattle.text_positions.proofs.lines.Lines.offset.Goals as goal
use Rattle.text_positions.proofs.lines.Lines.offset.Goals.{After-mark_within-mark}

pub returns-then-line-len-clause-exact : goal.returns-then-line-len-clause-exact
returns-then-line-len-clause-exact c =
    let starts : c.self.inside.starts.items ≡ line_starts c.args.text.now = ap (λ (t : Table). t.starts) c.self.view_is ∙ c.requires.starts in
    sym (offset_of-past c.args.encoding c.args.text.now c.args.pos c.utf8.text (omega (arith, ap length starts, c.self.inside.starts.ok.0)))

-- the start of the line, as it was read
at_start : (c : After-mark_within-mark) → c.index.result.now ≡ get_or (line_starts c.args.text.now) c.args.pos.line 0
at_start c =
    let starts : c.self.inside.starts.items ≡ line_starts c.args.text.now = ap (λ (t : Table). t.starts) c.self.view_is ∙ c.requires.starts in
    get_or_read c.self.inside.starts.items _ _ (omega (arith, c.self.inside.starts.ok.0)) c.index.ensures 0 ∙ ap (λ xs. get_or xs c.args.pos.line 0) starts

-- the mark that was found is one of the text
mark : (c : After-mark_within-mark) → IsMark c.args.text.now c.mark_within-mark.result
mark c =
    let starts : c.self.inside.starts.items ≡ line_starts c.args.text.now = ap (λ (t : Table). t.starts) c.self.view_is ∙ c.requires.starts in
    let there : IsLineStart c.args.text.now c.args.pos.line (get_or (line_starts c.args.text.now) c.args.pos.line 0) =
    line_start c.args.text.now c.args.pos.line c.utf8.text (omega (arith, ap length starts, c.self.inside.starts.ok.0)) in
    mark_known c.args.text.now c.deref.result.now c.index.result.now c.mark_within-mark.result
    (All-same (IsMark c.args.text.now) _ _ (c.deref.ensures.value ∙ ap (λ (t : Table). t.marks) c.self.view_is) c.requires.marks)
    (subst (IsCharBoundary c.args.text.now) (sym (at_start c)) there.boundary)
    c.mark_within-mark.ensures.known

pub mark_within-mark-requires : goal.mark_within-mark-requires
mark_within-mark-requires c = subst InOrder (sym (c.deref.ensures.value ∙ ap (λ (t : Table). t.marks) c.self.view_is)) c.requires.order

pub range_from-requires : goal.range_from-requires
range_from-requires c = λ some.
    let m : IsMark c.args.text.now c.mark_within-mark.result = mark (goal.at.range_from-requires c).After-mark_within-mark in
    subst (IsCharBoundary c.args.text.now) (sym c.at-at.ensures) m.boundary

pub bytes_in_line-requires : goal.bytes_in_line-requires
bytes_in_line-requires c =
    let starts : c.self.inside.starts.items ≡ line_starts c.args.text.now = ap (λ (t : Table). t.starts) c.self.view_is ∙ c.requires.starts in
    let short : bytes_within (units_of c.args.encoding) (c.args.pos.character - units_before c.args.encoding c.mark_within-mark.result) (first_line (drop (c.mark_within-mark.result.start + c.mark_within-mark.result.utf8) c.args.text.now)) < 256 =
    table_walk c.args.encoding c.args.text.now c.args.self.now c.deref.result.now c.args.pos.line c.index.result.now c.mark_within-mark.result c.args.pos.character c.requires
    (c.deref.ensures.value ∙ ap (λ (t : Table). t.marks) c.self.view_is)
    (omega (arith, ap length starts, c.self.inside.starts.ok.0))
    (at_start (goal.at.bytes_in_line-requires c).After-mark_within-mark)
    (mark (goal.at.bytes_in_line-requires c).After-mark_within-mark)
    c.mark_within-mark.ensures.line c.mark_within-mark.ensures.within c.mark_within-mark.ensures.last in
    let rest : c.range_from.result.now ≡ drop (c.mark_within-mark.result.start + c.mark_within-mark.result.utf8) c.args.text.now = c.range_from.ensures.value ∙ ap (λ n. drop n c.args.text.now) c.at-at.ensures in
    omega (
      arith,
      short,
      ap (λ n. bytes_within (units_of c.args.encoding) (c.args.pos.character - n) (first_line c.range_from.result.now)) c.units.ensures,
      ap (λ t. bytes_within (units_of c.args.encoding) (c.args.pos.character - units_before c.args.encoding c.mark_within-mark.result) (first_line t)) rest,
    )

pub returns-clause-exact : goal.returns-clause-exact
returns-clause-exact c =
    let m : IsMark c.args.text.now c.mark_within-mark.result = mark (goal.at.returns-clause-exact c).After-mark_within-mark in
    let starts : c.self.inside.starts.items ≡ line_starts c.args.text.now = ap (λ (t : Table). t.starts) c.self.view_is ∙ c.requires.starts in
    let there = offset_of-start c.args.encoding c.args.text.now c.args.pos c.utf8.text (omega (arith, ap length starts, c.self.inside.starts.ok.0)) in
    let line : c.mark_within-mark.result.start ≡ get_or (line_starts c.args.text.now) c.args.pos.line 0 = c.mark_within-mark.ensures.line ∙ at_start (goal.at.returns-clause-exact c).After-mark_within-mark in
    let rest : c.range_from.result.now ≡ drop (c.mark_within-mark.result.start + c.mark_within-mark.result.utf8) c.args.text.now = c.range_from.ensures.value ∙ ap (λ n. drop n c.args.text.now) c.at-at.ensures in
    let walked : c.bytes_in_line.result ≡ bytes_within (units_of c.args.encoding) (c.args.pos.character - units_before c.args.encoding c.mark_within-mark.result) (first_line (drop (c.mark_within-mark.result.start + c.mark_within-mark.result.utf8) c.args.text.now)) =
    c.bytes_in_line.ensures.bytes
    ∙ ap (λ n. bytes_within (units_of c.args.encoding) (c.args.pos.character - n) (first_line c.range_from.result.now)) c.units.ensures
    ∙ ap (λ t. bytes_within (units_of c.args.encoding) (c.args.pos.character - units_before c.args.encoding c.mark_within-mark.result) (first_line t)) rest in
    omega (
      arith,
      there,
      line,
      c.at-at.ensures,
      walked,
      ap (λ n. bytes_within (units_of c.args.encoding) c.args.pos.character (first_line (drop n c.args.text.now))) line,
      bytes_on c.args.encoding c.mark_within-mark.result _ _ c.args.pos.character m.counts c.mark_within-mark.ensures.within,
    )

pub returns-clause-boundary : goal.returns-clause-boundary
returns-clause-boundary c =
    let m : IsMark c.args.text.now c.mark_within-mark.result = mark (goal.at.returns-clause-boundary c).After-mark_within-mark in
    IsCharBoundary-from_rest c.args.text.now c.at-at.result c.bytes_in_line.result (omega (arith, c.at-at.ensures, m.boundary.0))
    (subst (λ t. IsCharBoundary t c.bytes_in_line.result) c.range_from.ensures.value c.bytes_in_line.ensures.boundary)
