use Rattle.std.proofs.Common.{◌≡◌, ℕ, suc, ◌++◌, Bool, true, false, Some, None, refl, sym, ap, ◌∙◌, subst, rules, arith, drop, add-one}
use Rattle.std.specs.Prelude.{if◌then◌else◌}
use Rattle.rename_model.specs.SameProgram.{paired}
use Rattle.rename_model.specs.Difference.{first_apart}
use Rattle.alpha_equal.specs.declared.nodes.Node.TheVariants as nodes
use Rattle.alpha_equal.specs.declared.points.Spot.TheVariants as spots
use Rattle.alpha_equal.specs.declared.points.Seen.TheVariants as seen
use Rattle.alpha_equal.specs.declared.points.Shown.TheVariants as shown
use Rattle.alpha_equal.specs.declared.points.Point.{Point}
use Rattle.alpha_equal.specs.Points.{IsPoint, ArePair}
use Rattle.alpha_equal.proofs.CompareLaws.{match_at, match_past}
use Rattle.alpha_equal.proofs.compare.first_apart.Goals as goal

-- what stands past the ends of lists
abbrev nothing : Point
nothing = record { told = record { spot = spots.Use; occ = None; shown = shown.Nothing }; seen = seen.Node nodes.Reference }

pub returns-then-k-new : goal.returns-then-k-new
returns-then-k-new c = λ unit form is_live os ns tells olds news.
    let names = c.args.work.now.symbols in
    let k = c.loop-k.k in
    let inv = c.loop-k.invariant unit form is_live os ns tells olds news in
    let o = match_at (IsPoint names unit form) c.args.old.now os k nothing olds (omega arith) in
    let past = match_past (IsPoint names unit form) c.args.new.now ns k news (omega arith) in
    let whole = (λ j. first_apart is_live inv.0 (sym o.is j) (sym past j)) ∙ inv.2 in
    subst (ArePair names unit form (Some _)) whole (record { spot = refl; place = refl; shown = refl }, record { spot = refl; place = refl; shown = refl })

pub returns-then-not-agree_at : goal.returns-then-not-agree_at
returns-then-not-agree_at c = λ unit form is_live os ns tells olds news.
    let names = c.args.work.now.symbols in
    let k = c.loop-k.k in
    let inv = c.loop-k.invariant unit form is_live os ns tells olds news in
    let o = match_at (IsPoint names unit form) c.args.old.now os k nothing olds (omega arith) in
    let n = match_at (IsPoint names unit form) c.args.new.now ns k nothing news (omega arith) in
    let apart : c.agree_at.result ≡ false = first_of (search rules, cc) in
    let agree = sym (c.agree_at.ensures unit form is_live inv.0 o.it n.it tells inv.1 o.holds n.holds) ∙ apart in
    let rest = first_apart is_live (paired o.it.seen n.it.seen ++ inv.0) (drop (suc k) os) (drop (suc k) ns) in
    let whole = sym (ap (λ (b : Bool). if b then rest else Some (o.it, n.it)) agree) ∙ (λ j. first_apart is_live inv.0 (sym o.is j) (sym n.is j)) ∙ inv.2 in
    subst (ArePair names unit form (Some _)) whole (o.holds.told, n.holds.told)

pub loop-k-preserved : goal.loop-k-preserved
loop-k-preserved c = λ unit form is_live os ns tells olds news.
    let names = c.args.work.now.symbols in
    let k = c.loop-k.k in
    let inv = c.loop-k.invariant unit form is_live os ns tells olds news in
    let o = match_at (IsPoint names unit form) c.args.old.now os k nothing olds (omega arith) in
    let n = match_at (IsPoint names unit form) c.args.new.now ns k nothing news (omega arith) in
    let same : c.agree_at.result ≡ true = first_of (search rules, cc) in
    let agree = sym (c.agree_at.ensures unit form is_live inv.0 o.it n.it tells inv.1 o.holds n.holds) ∙ same in
    let ps = paired o.it.seen n.it.seen ++ inv.0 in
    let rest = first_apart is_live ps (drop (suc k) os) (drop (suc k) ns) in
    let past = ap (λ (m : ℕ). first_apart is_live ps (drop m os) (drop m ns)) (add-one k) in
    let whole = past ∙ sym (ap (λ (b : Bool). if b then rest else Some (o.it, n.it)) agree) ∙ (λ j. first_apart is_live inv.0 (sym o.is j) (sym n.is j)) ∙ inv.2 in
    (ps, c.in_ok-pair_at.ensures names unit form inv.0 o.it.seen n.it.seen inv.1 o.holds.seen n.holds.seen, whole, omega arith)

pub returns-then-new-old : goal.returns-then-new-old
returns-then-new-old c = λ unit form is_live os ns tells olds news.
    let names = c.args.work.now.symbols in
    let k = c.loop-k.k in
    let inv = c.loop-k.invariant unit form is_live os ns tells olds news in
    let past = match_past (IsPoint names unit form) c.args.old.now os k olds (omega arith) in
    let n = match_at (IsPoint names unit form) c.args.new.now ns k nothing news (omega arith) in
    let whole = (λ j. first_apart is_live inv.0 (sym past j) (sym n.is j)) ∙ inv.2 in
    subst (ArePair names unit form (Some _)) whole (record { spot = refl; place = refl; shown = refl }, record { spot = refl; place = refl; shown = refl })

pub returns : goal.returns
returns c = λ unit form is_live os ns tells olds news.
    let names = c.args.work.now.symbols in
    let k = c.loop-k.k in
    let inv = c.loop-k.invariant unit form is_live os ns tells olds news in
    let past = match_past (IsPoint names unit form) c.args.old.now os k olds (omega arith) in
    let gone = match_past (IsPoint names unit form) c.args.new.now ns k news (omega arith) in
    let whole = (λ j. first_apart is_live inv.0 (sym past j) (sym gone j)) ∙ inv.2 in
    subst (ArePair names unit form None) whole tt
