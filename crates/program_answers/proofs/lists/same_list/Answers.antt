use Rattle.std.proofs.Common.{◌≡◌, ◌<◌, ℕ, suc, length, get_or, List, [], ◌∷◌, refl, arith, rules}
use Rattle.std.proofs.lemmas.Slice.Zip.{zip_end}
use Rattle.ls_base.specs.declared.answers.Diagnostic.{Diagnostic}
use Rattle.program_answers.proofs.lists.same_list.Goals as goal

-- lists of one length with the same at each place
same_all : (a b : List Diagnostic) → length a ≡ length b → ((k : ℕ) (d : Diagnostic) → k < length a → get_or a k d ≡ get_or b k d) → a ≡ b
same_all [] [] long all = refl
same_all [] (y ∷ b) long all = absurd (omega arith)
same_all (x ∷ a) [] long all = absurd (omega arith)
same_all (x ∷ a) (y ∷ b) long all = λ i. all 0 x (omega arith) i ∷ same_all a b (omega arith) (λ k d lt. all (suc k) d (omega arith)) i

pub returns : goal.returns
returns c =
    let first : c.into_iter-x-iterator.result.a.rest.now ≡ c.args.a.now = search rules in
    let second : c.into_iter-x-iterator.result.b.rest.now ≡ c.args.b.now = search rules in
    let long = zip_end c.args.a.now c.args.b.now c.loop-x.yielded c.into_iter-x-iterator.result c.loop-x.x-iterator c.next.new.self c.next.result first second c.loop-x.yielded_by c.in-None.is c.next.ensures.steps in
    let whole : length c.loop-x.yielded ≡ length c.args.a.now = omega (arith, c.if-a-b.false) in
    (λ e. same_all c.args.a.now c.args.b.now c.if-a-b.false (λ k d lt. c.loop-x.invariant k d (omega arith)), λ e. refl)
