-- Plans are larger than their parts.
use denote.Param.Weighed.{most}
use Rattle.std.proofs.Common.{◌≡◌, ◌+◌, ◌<◌, List, ap, ◌∙◌, arith}
use Rattle.std.specs.Prelude.{max, Vec}
use Rattle.std.specs.Global.{Box}
use Rattle.std.specs.declared.alloc.Global.{Global}
use Rattle.rules_build.specs.declared.plan.Plan.{Plan}
use Rattle.rules_build.specs.declared.plan.Plan.TheVariants as plan
use Rattle.rules_build.specs.declared.plan.End.{End, size-End}
use Rattle.rules_build.specs.declared.plan.End.TheVariants as end
use Rattle.rules_build.specs.declared.plan.End.TheViews.{sized-Vector, sized-List, sized-Dotted}
use Rattle.rules_build.proofs.plan.Plan.TheLaws.{the_size}

pub vector_above : (p : Plan) (items : Vec Plan Global) (xs : List Plan) → p ≡ plan.Vector items → xs ≡ items.items → most the_size xs < the_size p
vector_above p items xs is same =
    let e : the_size p ≡ max (most the_size items.items) 0 + 1 = ap the_size is ∙ sized-Vector items in
    let f : most the_size xs ≡ most the_size items.items = ap (most the_size) same in
    omega (arith, e, f)

pub list_size : (p : Plan) (items : Vec Plan Global) (b : End) → p ≡ plan.List items b → the_size p ≡ max (most the_size items.items) (max (size-End b) 0) + 1
list_size p items b is = ap the_size is ∙ sized-List items b

pub list_above : (p : Plan) (items : Vec Plan Global) (b : End) (xs : List Plan) → p ≡ plan.List items b → xs ≡ items.items → most the_size xs < the_size p
list_above p items b xs is same =
    let e = list_size p items b is in
    let f : most the_size xs ≡ most the_size items.items = ap (most the_size) same in
    omega (arith, e, f)

pub tail_above : (p : Plan) (items : Vec Plan Global) (b : End) (q : Box Plan) (x : Plan) → p ≡ plan.List items b → b ≡ end.Dotted q → x ≡ q.value → the_size x < the_size p
tail_above p items b q x is last same =
    let e = list_size p items b is in
    let f : size-End b ≡ max (the_size q.value) 0 + 1 = ap size-End last ∙ sized-Dotted q in
    let g : the_size x ≡ the_size q.value = ap the_size same in
    omega (arith, e, f, g)

pub end_above : (b : End) (q : Box Plan) (x : Plan) → b ≡ end.Dotted q → x ≡ q.value → the_size x < size-End b
end_above b q x last same =
    let f : size-End b ≡ max (the_size q.value) 0 + 1 = ap size-End last ∙ sized-Dotted q in
    let g : the_size x ≡ the_size q.value = ap the_size same in
    omega (arith, f, g)
