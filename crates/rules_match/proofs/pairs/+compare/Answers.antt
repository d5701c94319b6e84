use Rattle.std.proofs.Common.{rules, arith, ◌≡◌, ◌+◌, ◌-◌, drop, [], sym, ◌∙◌}
use Rattle.scheme_model.specs.Trees.{proper}
use Rattle.scheme_model.specs.RulesShape.{role_of, dots_of}
use Rattle.scheme_model.specs.Matching.{behind, front, pairs_in, pairs_each, pairs_behind}
use Rattle.syntax_tree.specs.Macros.{identifiers}
use Rattle.syntax_tree.proofs.Looking.{count_stands, behind_stands, vector_parts_within, within_positive, part_standing, part_there, part_within, split_one, behind_past}
use Rattle.rules_match.specs.Matches.{pairs_where}
use Rattle.rules_match.proofs.Parts.{behind_behind, count_behind, front_stands, rest_parts, end_dotted, tail_within}
use Rattle.rules_match.proofs.PairSteps.{adds_same, adds_none, each_more, each_all, pairs_more, step_alone, step_repeated, pairs_short, pairs_all, where_added, rest_none}
use Rattle.rules_match.proofs.pairs.+compare.Goals as goal

pub compare-compare_list-requires-in-Vector-look_at-2 : goal.compare-compare_list-requires-in-Vector-look_at-2
compare-compare_list-requires-in-Vector-look_at-2 t c =
    let w = c.args.work.now in
    let p = c.requires.pattern in
    let q = c.in-Vector.ensures.look p.0 p.1 in
    let f = c.in-Vector-look_at-2.ensures.look c.requires.form.0 c.requires.form.1 in
    let deep = within_positive w c.args.pattern c.args.left c.requires.pattern in (
      first_of (omega arith, search rules, grind arith),
      (record { parts = vector_parts_within w c.args.left p.0 c.in-Vector.parts.now q.0 q.1 p.2 q.2 q.3; tail = (proper, tt, omega arith) }, ((f.0, (proper, record { parts = f.3; tail = tt })), omega arith)),
    )

pub compare-returns-in_ok-compare_list-in-Vector-look_at-2 : goal.compare-returns-in_ok-compare_list-in-Vector-look_at-2
compare-returns-in_ok-compare_list-in-Vector-look_at-2 t c = λ r p u tells ps fs.
    let q = c.in-Vector.ensures.look p ps in
    let f = c.in-Vector-look_at-2.ensures.look u fs in
    adds_same c.args.work.now c.args.pairs.now c.compare_list-in-Vector-look_at-2.new.pairs (pairs_where (role_of identifiers r) (dots_of identifiers r) q.0 proper f.0 proper)
    (pairs_in (role_of identifiers r) (dots_of identifiers r) p u) (λ i. pairs_in (role_of identifiers r) (dots_of identifiers r) (sym q.2 i) (sym f.2 i))
    (c.in_ok-compare_list-in-Vector-look_at-2.ensures r q.0 proper f.0 proper tells (record { parts = q.3; tail = tt }) (record { parts = f.3; tail = tt }))

pub compare_each-compare-requires : goal.compare_each-compare-requires
compare_each-compare-requires t c =
    (first_of (omega arith, search rules, grind arith), (c.requires.pattern, part_standing c.args.work.now c.loop-form.form-index c.args.forms.now _ c.requires.forms c.loop-form-test.true))

pub compare_each-loop-form-preserved : goal.compare_each-loop-form-preserved
compare_each-loop-form-preserved t c = λ r p ts tells ps fs.
    let w = c.args.work.now in
    let k = c.loop-form.form-index in
    let n = part_there w k c.args.forms.now ts (record { number = 0 }) fs c.loop-form-test.true in
    each_more w c.args.pairs.now c.loop-form.pairs c.compare.new.pairs (λ u. pairs_in (role_of identifiers r) (dots_of identifiers r) p u) ts k n.part (c.loop-form.invariant r p ts tells ps fs) (split_one w k ts _ n)
    (c.in_ok-compare.ensures r p n.part tells ps n.stands)

pub compare_each-returns : goal.compare_each-returns
compare_each-returns t c = λ r p ts tells ps fs.
    let w = c.args.work.now in
    let k = c.loop-form.form-index in
    each_all w c.args.pairs.now c.loop-form.pairs (λ u. pairs_in (role_of identifiers r) (dots_of identifiers r) p u) ts k (c.loop-form.invariant r p ts tells ps fs)
    (behind_past w k c.args.forms.now ts fs c.loop-form-test.false)

pub compare_list-compare_each-requires : goal.compare_list-compare_each-requires
compare_list-compare_each-requires t c =
    let w = c.args.work.now in
    let f = c.requires.form in
    let j = c.loop-k.j in
    let n = j + c.saturating_sub-taken.result - j in (
      first_of (omega arith, search rules, grind arith),
      (
        part_within w c.args.pattern.items.now c.args.left c.loop-k.k _ c.requires.pattern.parts c.loop-k-test.true,
        (front n (behind j f.0), front_stands w n (drop j c.args.form.items.now) (behind j f.0) (behind_stands w j c.args.form.items.now f.0 f.1.1.parts)),
      ),
    )

pub compare_list-loop-k-preserved-then-dots_at : goal.compare_list-loop-k-preserved-then-dots_at
compare_list-loop-k-preserved-then-dots_at t c = (
  omega arith,
  λ r ps tail ts end tells pr fr.
      let w = c.args.work.now in
      let role = role_of identifiers r in
      let dots = dots_of identifiers r in
      let k = c.loop-k.k in
      let j = c.loop-k.j in
      let n = c.saturating_sub-taken.result in
      let p = part_there w k c.args.pattern.items.now ps (record { number = 0 }) pr.parts c.loop-k-test.true in
      let d = sym c.if-dots_at.true ∙ c.dots_at.ensures r ps tells pr.parts in
      let pc = count_stands w c.args.pattern.items.now ps pr.parts in
      let tc = count_stands w c.args.form.items.now ts fr.parts in
      let pb = count_behind (k + 2) ps in
      let tb = count_behind j ts in
      let s = step_repeated role dots (pairs_behind role dots tail) ps ts end k j n p.part (split_one w k ps _ p) d (omega arith) (behind_behind j n ts) in
      let same : j + n - j ≡ n = omega arith in
      let stands = front_stands w (j + n - j) (drop j c.args.form.items.now) (behind j ts) (behind_stands w j c.args.form.items.now ts fr.parts) in
      let a = c.in_ok-compare_each.ensures r p.part (front (j + n - j) (behind j ts)) tells p.stands stands in
      let b = adds_same w c.loop-k.pairs c.compare_each.new.pairs (pairs_each (pairs_in role dots p.part) (front (j + n - j) (behind j ts))) (pairs_each (λ u. pairs_in role dots p.part u) (front n (behind j ts)))
      (λ i. pairs_each (λ u. pairs_in role dots p.part u) (front (same i) (behind j ts))) a in
      pairs_more role dots (pairs_behind role dots tail) w c.args.pairs.now c.loop-k.pairs c.compare_each.new.pairs ps ts end c.args.from k j (k + 2) (j + n) (pairs_each (λ u. pairs_in role dots p.part u) (front n (behind j ts)))
      (c.loop-k.invariant.1 r ps tail ts end tells pr fr) b s,
)

pub compare_list-returns-then-rest-eq0 : goal.compare_list-returns-then-rest-eq0
compare_list-returns-then-rest-eq0 t c = λ r ps tail ts end tells pr fr.
    let w = c.args.work.now in
    let role = role_of identifiers r in
    let dots = dots_of identifiers r in
    let k = c.loop-k.k in
    let j = c.loop-k.j in
    let can = sym (c.can_take.ensures r ps tail ts end tells pr fr) ∙ c.if-not-can_take.false in
    let p = part_there w k c.args.pattern.items.now ps (record { number = 0 }) pr.parts c.loop-k-test.true in
    let d = sym c.if-dots_at.false ∙ c.dots_at.ensures r ps tells pr.parts in
    let gone = behind_past w j c.args.form.items.now ts fr.parts (omega arith) in
    where_added w c.args.pairs.now c.loop-k.pairs role dots (behind c.args.from ps) tail (behind c.args.from ts) end can
    (pairs_short role dots (pairs_behind role dots tail) w c.args.pairs.now c.loop-k.pairs ps ts end c.args.from k j p.part (c.loop-k.invariant.1 r ps tail ts end tells pr fr) (split_one w k ps _ p) gone d)

pub compare_list-compare-requires : goal.compare_list-compare-requires
compare_list-compare-requires t c =
    let w = c.args.work.now in
    let f = c.requires.form in (
      first_of (omega arith, search rules, grind arith),
      (
        part_within w c.args.pattern.items.now c.args.left c.loop-k.k _ c.requires.pattern.parts c.loop-k-test.true,
        part_standing w c.loop-k.j c.args.form.items.now _ (f.0, f.1.1.parts) (omega arith),
      ),
    )

pub compare_list-loop-k-preserved : goal.compare_list-loop-k-preserved
compare_list-loop-k-preserved t c = (
  omega arith,
  λ r ps tail ts end tells pr fr.
      let w = c.args.work.now in
      let role = role_of identifiers r in
      let dots = dots_of identifiers r in
      let k = c.loop-k.k in
      let j = c.loop-k.j in
      let p = part_there w k c.args.pattern.items.now ps (record { number = 0 }) pr.parts c.loop-k-test.true in
      let q = part_there w j c.args.form.items.now ts (record { number = 0 }) fr.parts (omega arith) in
      let d = sym c.if-dots_at.false ∙ c.dots_at.ensures r ps tells pr.parts in
      let s = step_alone role dots (pairs_behind role dots tail) ps ts end k j p.part q.part (split_one w k ps _ p) (split_one w j ts _ q) d in
      pairs_more role dots (pairs_behind role dots tail) w c.args.pairs.now c.loop-k.pairs c.compare.new.pairs ps ts end c.args.from k j (k + 1) (j + 1) (pairs_in role dots p.part q.part)
      (c.loop-k.invariant.1 r ps tail ts end tells pr fr) (c.in_ok-compare.ensures r p.part q.part tells p.stands q.stands) s,
)

pub compare_list-returns : goal.compare_list-returns
compare_list-returns t c = λ r ps tail ts end tells pr fr.
    let w = c.args.work.now in
    let role = role_of identifiers r in
    let dots = dots_of identifiers r in
    let k = c.loop-k.k in
    let j = c.loop-k.j in
    let can = sym (c.can_take.ensures r ps tail ts end tells pr fr) ∙ c.if-not-can_take.false in
    where_added w c.args.pairs.now c.compare_rest.new.pairs role dots (behind c.args.from ps) tail (behind c.args.from ts) end can
    (pairs_all role dots (pairs_behind role dots tail) w c.args.pairs.now c.loop-k.pairs c.compare_rest.new.pairs ps ts end c.args.from k j (c.loop-k.invariant.1 r ps tail ts end tells pr fr)
    (behind_past w k c.args.pattern.items.now ps pr.parts c.loop-k-test.false) (c.in_ok-compare_rest.ensures r tail ts end tells pr.tail fr))

pub compare_rest-returns-then-from-form : goal.compare_rest-returns-then-from-form
compare_rest-returns-then-from-form t c = λ r q ts end tells qs row.
    let w = c.args.work.now in
    let n = count_stands w c.args.form.items.now ts row.parts in
    let b = count_behind c.args.from ts in
    let e = rest_none w (role_of identifiers r) (dots_of identifiers r) c.args.tail q (behind c.args.from ts) end qs (rest_parts (behind c.args.from ts) end (omega arith)) in
    adds_same w c.args.pairs.now c.args.pairs.now [] (pairs_behind (role_of identifiers r) (dots_of identifiers r) q (behind c.args.from ts) end) (sym e) (adds_none w c.args.pairs.now)

pub compare_rest-compare-requires : goal.compare_rest-compare-requires
compare_rest-compare-requires t c =
    let w = c.args.work.now in
    let f = c.requires.form in
    let q = tail_within w c.args.tail c.in-Some.pattern c.args.left c.in-Some.is c.requires.tail in
    let e = end_dotted w c.args.form.end f.1.0 c.in-Some-end.end c.in-Some-end.is f.1.1.tail in
    (first_of (omega arith, search rules, grind arith), (q, (e.0, e.3)))

pub compare_rest-returns-in_ok-compare-in-Some-end : goal.compare_rest-returns-in_ok-compare-in-Some-end
compare_rest-returns-in_ok-compare-in-Some-end t c = λ r q ts end tells qs row.
    let w = c.args.work.now in
    let role = role_of identifiers r in
    let dots = dots_of identifiers r in
    let p = end_dotted w c.args.tail q c.in-Some.pattern c.in-Some.is qs in
    let e = end_dotted w c.args.form.end end c.in-Some-end.end c.in-Some-end.is row.tail in
    let gone = behind_past w c.args.from c.args.form.items.now ts row.parts (omega arith) in
    adds_same w c.args.pairs.now c.compare.new.pairs (pairs_in role dots p.0 e.0) (pairs_behind role dots q (behind c.args.from ts) end)
    (λ i. pairs_behind role dots (sym p.1 i) (sym gone i) (sym e.1 i)) (c.in_ok-compare-in-Some-end.ensures r p.0 e.0 tells p.3 e.3)
