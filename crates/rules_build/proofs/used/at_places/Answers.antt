use Rattle.std.proofs.Common.{◌≡◌, ◌<◌, ◌++◌, ◌∙◌, ℕ, List, [], ◌∷◌, Some, true, length, append_assoc, append-nil, rules, sym, ap}
use Rattle.std.specs.BTreeSet.{contains}
use Rattle.std.specs.Map.Iter.{deref}
use Rattle.std.specs.Ordering.{nat_cmp}
use Rattle.std.proofs.lemmas.Map.Iter.{rest_more, rest_all}
use Rattle.std.proofs.lemmas.Map.Views.{All-turn}
use Rattle.std.proofs.lemmas.Option.{slice_get-get_or}
use Rattle.rules_build.specs.declared.values.Bound as code
use Rattle.rules_build.specs.Values.{bounds_at}
use Rattle.rules_build.proofs.PlaceLaws.{at_first}
use Rattle.rules_build.proofs.used.at_places.Goals as goal

pub bounds-bounds-place : goal.bounds-bounds-place
bounds-bounds-place c =
    let gives = c.into_iter-place-iterator.ensures.into_iter_gives in
    c.requires c.in-Some.place.now (All-turn deref (λ (k : ℕ). contains nat_cmp c.args.places.now k ≡ true) _ _ _ _ _ _ _ gives.5 gives.0 c.loop-place.yielded_by c.in-Some.is c.next.ensures.steps)

pub offset_bounds-bounds-place : goal.offset_bounds-bounds-place
offset_bounds-bounds-place c =
    let gives = c.into_iter-place-iterator.ensures.into_iter_gives in
    let l : c.in-Some.place.now < length c.args.bounds.now = c.requires c.in-Some.place.now (All-turn deref (λ (k : ℕ). contains nat_cmp c.args.places.now k ≡ true) _ _ _ _ _ _ _ gives.5 gives.0 c.loop-place.yielded_by c.in-Some.is c.next.ensures.steps) in
    search rules

pub loop-place-preserved : goal.loop-place-preserved
loop-place-preserved c =
    let gives = c.into_iter-place-iterator.ensures.into_iter_gives in
    let k = c.in-Some.place.now in
    let bs = c.args.bounds.now in
    let l : k < length bs = c.requires k (All-turn deref (λ (q : ℕ). contains nat_cmp c.args.places.now q ≡ true) _ _ _ _ _ _ _ gives.5 gives.0 c.loop-place.yielded_by c.in-Some.is c.next.ensures.steps) in
    let b = c.index-bounds-place.result in
    let old = c.loop-place.used.items in
    let rest = c.next.new.self in
    ap (λ (us : List code.Bound). us ++ bounds_at bs rest) c.in_ok-push.ensures.items ∙ append_assoc old (b ∷ []) (bounds_at bs rest)
    ∙ ap (λ (us : List code.Bound). old ++ us) (sym (at_first bs k rest b (slice_get-get_or bs k b l ∙ ap (λ (x : code.Bound). Some x) (sym c.index-bounds-place.is))))
    ∙ ap (λ (ks : List ℕ). old ++ bounds_at bs ks) (sym (rest_more deref c.loop-place.place-iterator rest c.next.result c.in-Some.place c.in-Some.is c.next.ensures.steps)) ∙ c.loop-place.invariant

pub returns : goal.returns
returns c =
    let items = c.loop-place.used.items in
    let e = rest_all deref c.loop-place.place-iterator c.next.new.self c.next.result c.in-None.is c.next.ensures.steps in
    record {
      used = sym (append-nil items) ∙ ap (λ (ks : List ℕ). items ++ bounds_at c.args.bounds.now ks) (sym e) ∙ c.loop-place.invariant;
      ordered = c.into_iter-place-iterator.ensures.into_iter_gives.4;
    }
