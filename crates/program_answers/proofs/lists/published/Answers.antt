-- What is published of one document more.
use Rattle.std.proofs.Common.{◌≡◌, ◌+◌, ◌++◌, ◌∙◌, [], ◌∷◌, ℕ, List, Some, None, String, cond, take, bytes_eq, string_cmp, Global, ℤ, w64, to_z, of_z, rules, ap, sym, refl, subst, length, ◌≤◌, arith}
use mir.Val.{SFits}
use Rattle.std.proofs.lemmas.Int.{to_z-of_z}
use Rattle.std.proofs.lemmas.List.{take_more}
use Rattle.ls_base.specs.declared.answers.Diagnostic.{Diagnostic}
use Rattle.std.specs.BTreeMap.{BTreeMap, IsOrdered, get_by_text}
use Rattle.read_documents.specs.declared.documents.Document.{Document}
use Rattle.program_answers.specs.declared.publications.Published.{Published}
use Rattle.program_answers.specs.Updates.{list_at}
use Rattle.read_documents.proofs.Nths.{take_all}
use Rattle.program_answers.proofs.PublishLaws.{SoFar, so_far_one, so_far_put, so_far_skip, version_among, version_push, versions_are, published_all}
use Rattle.program_answers.proofs.lists.published.Goals as goal
use Rattle.program_answers.proofs.lists.published.Goals.{then-is_news+in_ok-put-2, else-is_news}

abbrev as_published : List ℕ → ℤ → List Diagnostic → Published
as_published uri version list = record { uri = uri; version = Some version; list = list }

pub loop-document-init : goal.loop-document-init
loop-document-init c = (
  so_far_one c.args.changed.now (list_at c.args.before.now) (list_at c.args.now.now) c.new-all.result c.put.new.all (record { uri = c.args.changed.now; version = None; list = list_at c.args.now.now c.args.changed.now })
      c.new-all.ensures.empty c.in_ok-put.ensures.puts refl refl refl,
  c.in_ok-put.ensures.ordered,
  omega (arith, c.in_ok-put.ensures.one_more, ap length c.new-all.ensures.empty),
)

pub loop-document-preserved : goal.loop-document-preserved
loop-document-preserved c =
    let cs = c.args.documents.now in
    let d = c.document-item.result in
    let n = c.loop-document.document-index in
    let more : take (n + 1) cs ≡ take n cs ++ d ∷ [] =
    take_more cs n d c.loop-document-test.true ∙ ap (λ (x : Document). take n cs ++ x ∷ []) (sym c.document-item.is) in
    let later : (uri : List ℕ) → version_among (take (n + 1) cs) uri ≡ cond (bytes_eq c.as_str-uri.result.now uri) (Some d.version) (version_among (take n cs) uri) =
    λ uri. ap (λ xs. version_among xs uri) more ∙ version_push (take n cs) d uri ∙ ap (λ (u : List ℕ). cond (bytes_eq u uri) (Some d.version) (version_among (take n cs) uri)) (sym c.as_str-uri.ensures) in
    let so = c.loop-document.invariant.0 in
    let bs = c.as_str-uri.result.now in
    let before = list_at c.args.before.now in
    let now = list_at c.args.now.now in
    let told = version_among (take n cs) in
    let next = version_among (take (n + 1) cs) in
    elim c.if-is_news.branch [
      | then-is_news+in_ok-put-2 w ↦
          let v = w.version_of.result in
          let fits : SFits w64 v = search rules in
          let version : to_z w64 (of_z w64 v) ≡ d.version = to_z-of_z w64 v fits ∙ w.version_of.ensures in
          let e : w.put-then-is_news.new.all ≡ c.if-is_news.all = sym w.all-is in
          let q = so_far_put c.args.changed.now before now told next c.loop-document.all so bs d.version later w.put-then-is_news.new.all (record { uri = bs; version = Some d.version; list = now bs }) (λ uri. w.in_ok-put-2.ensures.puts uri ∙ (λ i. cond (bytes_eq bs uri) (Some (as_published bs (version i) (now bs))) (get_by_text c.loop-document.all uri))) refl refl refl w.if-is_news.ensures in (
            subst (λ (m : BTreeMap (String Global) Published). SoFar c.args.changed.now before now next m) e q,
            subst (λ (m : BTreeMap (String Global) Published). IsOrdered string_cmp m) e w.in_ok-put-2.ensures.ordered,
            subst (λ (m : BTreeMap (String Global) Published). length m.entries ≤ (n + 1) + 1) e (omega (arith, w.in_ok-put-2.ensures.one_more, c.loop-document.invariant.2)),
          )
      | else-is_news w ↦
          let e : c.loop-document.all ≡ c.if-is_news.all = sym w.all-is in
          let stays = w.if-is_news.ensures in
          let q = so_far_skip c.args.changed.now before now told next c.loop-document.all so bs d.version later stays.0 stays.1 in (
            subst (λ (m : BTreeMap (String Global) Published). SoFar c.args.changed.now before now next m) e q,
            subst (λ (m : BTreeMap (String Global) Published). IsOrdered string_cmp m) e c.loop-document.invariant.1,
            subst (λ (m : BTreeMap (String Global) Published). length m.entries ≤ (n + 1) + 1) e (omega (arith, c.loop-document.invariant.2)),
          )
    ]

pub returns-clause-news : goal.returns-clause-news
returns-clause-news c = λ texts are stay.
    let cs = c.args.documents.now in
    let over : length cs ≤ c.loop-document.document-index = omega arith in
    let all : take c.loop-document.document-index cs ≡ cs = take_all cs c.loop-document.document-index over in
    published_all c.args.changed.now (list_at c.args.before.now) (list_at c.args.now.now) texts (version_among (take c.loop-document.document-index cs))
    (λ uri. ap (λ xs. version_among xs uri) all ∙ versions_are texts cs are uri) c.loop-document.all c.loop-document.invariant.0 c.loop-document.invariant.1 stay c.in_ok-in_order.field-0 c.in_ok-in_order.ensures
