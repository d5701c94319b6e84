use Rattle.std.proofs.Common.{◌≡◌, ◌-◌, ◌⊎◌, inl, [], ◌∷◌, ◌++◌, length, drop, refl, sym, ap, ◌∙◌, arith}
use Rattle.std.proofs.lemmas.List.{append-nil}
use Rattle.std.proofs.lemmas.List.Elements.{All-nil, All-push, All-same}
use Rattle.std.proofs.lemmas.Str.{len_utf8_bounds}
use Rattle.ls_base.specs.declared.encoding.Encoding.TheVariants.{Utf16, Utf32}
use Rattle.text_positions.specs.Marks.{IsMark, EachIsNear}
use Rattle.text_positions.specs.Walks.{first_line}
use Rattle.text_positions.proofs.FirstLine.{first_line-nil, rest_more}
use Rattle.text_positions.proofs.LineStarts.{starts_pushed, starts_kept, later_starts-nil, starts_begun}
use Rattle.text_positions.proofs.MarkOrder.{ordered_nil, ordered_past, ordered_later}
use Rattle.text_positions.proofs.MarkWalks.{ended_line, line_more, line_return, units_few, here_begin, here_place, here_past, here_return, marked, with_mark_cases}
use Rattle.text_positions.proofs.MarksNear.{near_begin, near_later, near_past, near_return, near_done}
use Rattle.text_positions.proofs.lines.Lines.of.Goals as goal
use Rattle.text_positions.proofs.lines.Lines.of.Goals.{In-Some}

pub loop-c-init : goal.loop-c-init
loop-c-init c =
    let one : c.push.new.self.items ≡ 0 ∷ [] = c.in_ok-push.ensures.items ∙ ap (λ xs. xs ++ 0 ∷ []) c.new-starts.ensures.items in
    let none : 0 ≡ length c.args.text.now - length c.args.text.now = omega arith in
    let all : c.args.text.now ≡ drop (length c.args.text.now - length c.args.text.now) c.args.text.now = ap (λ n. drop n c.args.text.now) none in
    record {
      text = c.utf8.text;
      within = omega arith;
      rest = all;
      so_far = rw one (starts_begun c.args.text.now (length c.args.text.now - length c.args.text.now) (sym none));
      here = here_begin c.args.text.now c.args.text.now c.begin-here.result 0 c.begin-here.ensures none all;
      marks = All-same (IsMark c.args.text.now) _ [] c.new-marks.ensures.items (All-nil (IsMark c.args.text.now));
      begun = omega (arith, c.begin-here.ensures.line);
      order = ordered_nil c.new-marks.result.items c.begin-here.result c.new-marks.ensures.items;
      near = near_begin c.args.text.now c.args.text.now c.push.new.self.items c.new-marks.result.items c.begin-here.result 0 c.begin-here.ensures refl (All-same (λ s. (s ≡ 0) ⊎ EachIsNear c.new-marks.result.items s (first_line (drop s c.args.text.now))) _ (0 ∷ []) one (All-push (λ s. (s ≡ 0) ⊎ EachIsNear c.new-marks.result.items s (first_line (drop s c.args.text.now))) [] 0 (λ k d h. absurd (omega arith)) (inl refl)));
    }

-- what is left behind the character
left : (c : In-Some) → c.in-Some.more.now ≡ drop (length c.args.text.now - length c.in-Some.more.now) c.args.text.now
left c = rest_more c.args.text.now c.loop-c.rest.now c.in-Some.more.now _ c.loop-c.invariant.rest c.in-Some.ensures.rest c.in-Some.ensures.within c.loop-c.invariant.within

pub loop-c-preserved-in_ok-push-2 : goal.loop-c-preserved-in_ok-push-2
loop-c-preserved-in_ok-push-2 c = record {
  text = c.in-Some.ensures.text;
  within = omega (arith, c.in-Some.ensures.within);
  rest = left (goal.at.loop-c-preserved-in_ok-push-2 c).In-Some;
  so_far = rw c.in_ok-push-2.ensures.items (starts_pushed c.loop-c.rest.now c.in-Some.more.now c.loop-c.starts.items _ c.in-Some.c (length c.args.text.now - length c.loop-c.rest.now) _ c.in-Some.ensures.some (omega (arith, c.in-Some.ensures.within)) c.loop-c.invariant.so_far _ c.ends_behind.ensures c.if-ends_behind.true);
  here = here_begin c.args.text.now c.in-Some.more.now c.begin-here-then-ends_behind.result _ c.begin-here-then-ends_behind.ensures refl (left (goal.at.loop-c-preserved-in_ok-push-2 c).In-Some);
  marks = c.loop-c.invariant.marks;
  begun = omega (arith, c.begin-here-then-ends_behind.ensures.line);
  order = ordered_later c.loop-c.marks.items c.loop-c.here c.begin-here-then-ends_behind.result (omega (arith, c.begin-here-then-ends_behind.ensures.line, c.loop-c.invariant.begun, c.loop-c.invariant.within, c.in-Some.ensures.within, len_utf8_bounds c.in-Some.c)) c.loop-c.invariant.order;
  near = near_later c.args.text.now c.loop-c.rest.now c.in-Some.more.now c.loop-c.starts.items _ c.loop-c.marks.items c.loop-c.here c.begin-here-then-ends_behind.result _ (ended_line c.loop-c.rest.now c.in-Some.more.now c.in-Some.c _ c.in-Some.ensures.some c.ends_behind.ensures c.if-ends_behind.true) c.in_ok-push-2.ensures.items c.begin-here-then-ends_behind.ensures (left (goal.at.loop-c-preserved-in_ok-push-2 c).In-Some) c.loop-c.invariant.near;
}

pub mark_past-requires-clause-short : goal.mark_past-requires-clause-short
mark_past-requires-clause-short c =
    omega (arith, here_place c.args.text.now c.loop-c.rest.now c.in-Some.more.now c.in-Some.c c.loop-c.here _ c.in-Some.ensures.some c.ends_line.ensures c.loop-c.invariant.here c.if-not-ends_line.true, c.in-Some.ensures.within, c.loop-c.invariant.within, c.requires)

pub mark_past-requires-clause-utf16 : goal.mark_past-requires-clause-utf16
mark_past-requires-clause-utf16 c = let here = c.loop-c.invariant.here in units_few Utf16 c.loop-c.here _ _ here.counts

pub mark_past-requires-clause-utf32 : goal.mark_past-requires-clause-utf32
mark_past-requires-clause-utf32 c = let here = c.loop-c.invariant.here in units_few Utf32 c.loop-c.here _ _ here.counts

pub loop-c-preserved-in_ok-here : goal.loop-c-preserved-in_ok-here
loop-c-preserved-in_ok-here c = record {
  text = c.in-Some.ensures.text;
  within = omega (arith, c.in-Some.ensures.within);
  rest = left (goal.at.loop-c-preserved-in_ok-here c).In-Some;
  so_far = starts_kept c.loop-c.rest.now c.in-Some.more.now c.loop-c.starts.items _ c.in-Some.c (length c.args.text.now - length c.loop-c.rest.now) _ c.in-Some.ensures.some (omega (arith, c.in-Some.ensures.within)) c.loop-c.invariant.so_far _ c.ends_behind.ensures c.if-ends_behind.false;
  here = here_past c.args.text.now c.loop-c.rest.now c.in-Some.more.now c.in-Some.c c.loop-c.here _ c.in-Some.ensures.some c.ends_line.ensures c.loop-c.invariant.here c.in_ok-here.here c.if-not-ends_line.true c.in_ok-here.ensures.past c.in-Some.ensures.within c.loop-c.invariant.within;
  marks = marked c.args.text.now c.loop-c.rest.now c.in-Some.more.now c.in-Some.c c.loop-c.here _ c.in-Some.ensures.some c.ends_line.ensures c.loop-c.invariant.here c.in_ok-here.here _ _ c.if-not-ends_line.true c.in_ok-here.ensures.past c.in-Some.ensures.within c.loop-c.invariant.within (left (goal.at.loop-c-preserved-in_ok-here c).In-Some) c.in-Some.ensures.text c.loop-c.invariant.marks (with_mark_cases c.loop-c.here c.in_ok-here.here _ _ c.in_ok-here.ensures.marks);
  begun = let past = c.in_ok-here.ensures.past in omega (arith, past.line, c.loop-c.invariant.begun, c.in-Some.ensures.within);
  order = ordered_past _ _ c.loop-c.here c.in_ok-here.here c.in-Some.c c.in_ok-here.ensures.past (with_mark_cases c.loop-c.here c.in_ok-here.here _ _ c.in_ok-here.ensures.marks) c.loop-c.invariant.order;
  near = near_past c.args.text.now c.loop-c.rest.now c.in-Some.more.now c.loop-c.starts.items c.loop-c.marks.items _ c.loop-c.here c.in_ok-here.here c.in-Some.c (line_more c.args.text.now c.loop-c.rest.now c.in-Some.more.now c.in-Some.c c.loop-c.here _ c.in-Some.ensures.some c.ends_line.ensures c.loop-c.invariant.here c.if-not-ends_line.true) c.in_ok-here.ensures.past c.in_ok-here.ensures.marks c.loop-c.invariant.near;
}

pub loop-c-preserved : goal.loop-c-preserved
loop-c-preserved c = record {
  text = c.in-Some.ensures.text;
  within = omega (arith, c.in-Some.ensures.within);
  rest = left (goal.at.loop-c-preserved c).In-Some;
  so_far = starts_kept c.loop-c.rest.now c.in-Some.more.now c.loop-c.starts.items _ c.in-Some.c (length c.args.text.now - length c.loop-c.rest.now) _ c.in-Some.ensures.some (omega (arith, c.in-Some.ensures.within)) c.loop-c.invariant.so_far _ c.ends_behind.ensures c.if-ends_behind.false;
  here = here_return c.args.text.now c.loop-c.rest.now c.in-Some.more.now c.in-Some.c c.loop-c.here _ c.in-Some.ensures.some c.ends_line.ensures c.loop-c.invariant.here c.if-not-ends_line.false (sym c.ends_behind.ensures ∙ c.if-ends_behind.false);
  marks = c.loop-c.invariant.marks;
  begun = omega (arith, c.loop-c.invariant.begun, c.in-Some.ensures.within);
  order = c.loop-c.invariant.order;
  near = near_return c.args.text.now c.loop-c.rest.now c.in-Some.more.now c.loop-c.starts.items c.loop-c.marks.items c.loop-c.here (line_return c.args.text.now c.loop-c.rest.now c.in-Some.more.now c.in-Some.c c.loop-c.here _ c.in-Some.ensures.some c.ends_line.ensures c.loop-c.invariant.here c.if-not-ends_line.false (sym c.ends_behind.ensures ∙ c.if-ends_behind.false)) c.loop-c.invariant.near;
}

pub returns : goal.returns
returns c = record {
  short = c.requires;
  starts = sym (append-nil c.loop-c.starts.items) ∙ ap (λ xs. c.loop-c.starts.items ++ xs) (sym (later_starts-nil _ _ c.in_default.ensures.none)) ∙ c.loop-c.invariant.so_far;
  marks = c.loop-c.invariant.marks;
  order = let ordered = c.loop-c.invariant.order in ordered.order;
  near = near_done c.args.text.now c.loop-c.rest.now c.loop-c.starts.items c.loop-c.marks.items c.loop-c.here (first_line-nil c.loop-c.rest.now c.in_default.ensures.none) c.loop-c.invariant.near;
}
