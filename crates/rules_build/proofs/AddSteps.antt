-- The steps by which the nodes of a plan are added.
use Rattle.std.proofs.Common.{◌≡◌, ℕ, ◌+◌, ◌≤◌, List, Option, Some, None, refl, sym, ◌∙◌, subst, arith}
use Rattle.std.specs.Prelude.{Vec, Result, Ok}
use Rattle.std.specs.Global.{Box}
use Rattle.std.specs.declared.alloc.Global.{Global}
use Rattle.ls_base.specs.Limits.{max_tree_nodes, max_tree_depth}
use Rattle.scheme_model.specs.Identifiers.{Number}
use Rattle.scheme_model.specs.Trees.{Tree, list, vector, Trees, no_trees, Tail}
use Rattle.scheme_model.specs.TreeParts.{append}
use Rattle.scheme_model.specs.Measures.{tree_size, tree_depth, tail_size, tail_depth}
use Rattle.scheme_model.specs.Ident.{Ident as Identifier}
use Rattle.syntax_tree.specs.Names.{KeepsNames}
use Rattle.syntax_tree.specs.Looks.{PartsStand, EndStands}
use Rattle.syntax_tree.specs.Works.{StandsFor, IsNodeOf, CanAdd, CanName, CanNameParts, KeepsTrees}
use Rattle.syntax_tree.specs.declared.trees.Work.{Work}
use Rattle.syntax_tree.specs.declared.trees.table.Region.{Region}
use Rattle.syntax_tree.specs.declared.trees.nodes.Tree as number
use Rattle.syntax_tree.specs.declared.trees.nodes.Node.TheVariants as node
use Rattle.rules_build.specs.declared.fault.BuildFault.{BuildFault}
use Rattle.rules_build.specs.declared.plan.Plan.{Plan}
use Rattle.rules_build.specs.declared.plan.Plan.TheVariants as plan
use Rattle.rules_build.specs.declared.plan.End.{End}
use Rattle.rules_build.specs.declared.plan.End.TheVariants as end
use Rattle.rules_build.specs.Drafts.{Draft, held, listed, Drafts, Ending, ending_parts, ending_makes, tree_of, row_of, tail_of, makes, all_make, IsDraft, AreDrafts, IsEnding}
use Rattle.rules_build.specs.Adds.{Grows, Lacks, Adds, AddsAll, AddsEnd, AreNamed, CanBeAdded, EndCanBeAdded}
use Rattle.rules_build.proofs.PlanViews.{list_draft, dotted_ending}
use Rattle.rules_build.proofs.DraftLaws.{row_before, listed_is}
use Rattle.rules_build.proofs.BuildLaws.{append_nil}
use Rattle.rules_build.proofs.AddLaws.{grows_none, grows_more, grows_on, lacks_more, ending_kept, all_kept, named_kept, named_list, adds_on}

-- a fault, where more might have been added
pub err_more : (a b : Work) (region : Region) (k : Number) (m most : ℕ) (e : BuildFault) → m ≤ most → Grows a b region k m × Lacks a m e → Grows a b region k most × Lacks a most e
err_more a b region k m most e l h = (grows_more a b region k m most h.0 l, lacks_more a a 0 m most e (omega arith) (omega (arith, l)) h.1)

-- a fault, after others were added
pub err_after : (a b c : Work) (region : Region) (k : Number) (m n most : ℕ) (e : BuildFault) → Grows a b region k m → m + n ≤ most → Grows b c region k n × Lacks b n e → Grows a c region k most × Lacks a most e
err_after a b c region k m n most e g l h = (grows_on a b c region k m n most g h.0 l, lacks_more a b m n most e g.nodes l h.1)

pub vector_node : (w : Work) (items : Vec number.Tree Global) (ts : Trees Identifier) → PartsStand w items.items ts → IsNodeOf w (node.Vector items None) (vector ts None)
vector_node w items ts h = (ts, refl, h)

pub list_node : (w : Work) (items : Vec number.Tree Global) (end : Option number.Tree) (ts : Trees Identifier) (tail : Tail Identifier) → PartsStand w items.items ts → EndStands w end tail → IsNodeOf w (node.List items end None) (list ts tail None)
list_node w items end ts tail h g = (ts, tail, refl, h, g)

-- what may be added may still be added later
pub end_later : (old new : Work) (region : Region) (k : Number) (b : End) → KeepsTrees old new → KeepsNames old.symbols new.symbols → EndCanBeAdded old region k b → EndCanBeAdded new region k b
end_later old new region k b trees names h = (h.0, ending_kept old new region trees names b h.0 h.1, h.2, h.3)

pub parts_before : (k : Number) (ds : Drafts) (e : Ending) → append (row_of k ds no_trees) (ending_parts e) ≡ row_of k ds (ending_parts e)
parts_before k ds e = sym (row_before k ds (ending_parts e))

-- a tree that is there is added by adding nothing
pub held_added : (w : Work) (region : Region) (k : Number) (n : number.Tree) (t : Tree Identifier) (d : Draft) → d ≡ held t → StandsFor w n t → CanName w region n → Adds w w region k (makes d) (tree_of k d) (Ok n)
held_added w region k n t d is h named = subst (λ (x : Draft). Adds w w region k (makes x) (tree_of k x) (Ok n)) (sym is) (grows_none w region k 0, h, named)

-- ---- a list

-- the parts of a list are there, and its end is not yet
pub record RowReady (old mid : Work) (region : Region) (k : Number) (b : End) (v : Vec number.Tree Global) (d : Draft) : Type 0 where
  pub row : Drafts
  pub last : Ending
  pub is : d ≡ listed row last
  pub grows : Grows old mid region k (all_make row)
  pub stand : PartsStand mid v.items (row_of k row no_trees)
  pub named : AreNamed mid region v.items
  pub ending : IsEnding mid region b last

pub row_ready : (old mid : Work) (region : Region) (k : Number) (p : Plan) (plans : Vec Plan Global) (b : End) (ps : List Plan) (v : Vec number.Tree Global) (d : Draft) → p ≡ plan.List plans b → ps ≡ plans.items → IsDraft old region p d →
    ((ds : Drafts) → AreDrafts old region ps ds → AddsAll old mid region k (all_make ds) (row_of k ds no_trees) (Ok v)) → RowReady old mid region k b v d
row_ready old mid region k p plans b ps v d is same h made =
    let q = list_draft old region p d plans b is h in
    let a = made q.0 (subst (λ (xs : List Plan). AreDrafts old region xs q.0) (sym same) q.3) in
    record { row = q.0; last = q.1; is = q.2; grows = a.0; stand = a.1; named = a.2; ending = ending_kept old mid region a.0.trees a.0.names.keeps b q.1 q.4 }

-- the list can be added
pub record ListReady (old last : Work) (region : Region) (k : Number) (items : Vec number.Tree Global) (back : Option number.Tree) (d : Draft) : Type 0 where
  pub row : Drafts
  pub end : Ending
  pub is : d ≡ listed row end
  pub grows : Grows old last region k (all_make row + ending_makes end)
  pub whole : IsNodeOf last (node.List items back None) (tree_of k (listed row end))
  pub names : CanNameParts last region (node.List items back None)

pub list_ready : (old mid last : Work) (region : Region) (k : Number) (b : End) (v items : Vec number.Tree Global) (back : Option number.Tree) (d : Draft) → RowReady old mid region k b v d →
    ((e : Ending) (us : Trees Identifier) → IsEnding mid region b e → PartsStand mid v.items us → AreNamed mid region v.items → AddsEnd mid last region k (ending_makes e) (append us (ending_parts e)) (tail_of k e) items.items (Ok back)) →
    ListReady old last region k items back d
list_ready old mid last region k b v items back d u made =
    let a = made u.last (row_of k u.row no_trees) u.ending u.stand u.named in
    let stand = subst (PartsStand last items.items) (parts_before k u.row u.last) a.1 in
    record {
      row = u.row;
      end = u.last;
      is = u.is;
      grows = grows_on old mid last region k (all_make u.row) (ending_makes u.last) (all_make u.row + ending_makes u.last) u.grows a.0 (omega arith);
      whole = list_node last items back (row_of k u.row (ending_parts u.last)) (tail_of k u.last) stand a.3;
      names = named_list last region items back None a.2 a.4;
    }

pub list_can : (old last : Work) (region : Region) (k : Number) (items : Vec number.Tree Global) (back : Option number.Tree) (d : Draft) → ListReady old last region k items back d → tree_size (tree_of k d) ≤ max_tree_nodes → tree_depth (tree_of k d) ≤ max_tree_depth →
    CanAdd last (node.List items back None)
list_can old last region k items back d u size deep = (
  tree_of k (listed u.row u.end),
  u.whole,
  subst (λ (x : Draft). tree_size (tree_of k x) ≤ max_tree_nodes) u.is size,
  subst (λ (x : Draft). tree_depth (tree_of k x) ≤ max_tree_depth) u.is deep,
)

pub list_added : (old last new : Work) (region : Region) (k : Number) (items : Vec number.Tree Global) (back : Option number.Tree) (d : Draft) (r : Result number.Tree BuildFault) → ListReady old last region k items back d →
    ((t : Tree Identifier) → IsNodeOf last (node.List items back None) t → Adds last new region k 1 t r) → Adds old new region k (makes d) (tree_of k d) r
list_added old last new region k items back d r u made =
    let t = tree_of k (listed u.row u.end) in
    let most = all_make u.row + ending_makes u.end in
    subst (λ (x : Draft). Adds old new region k (makes x) (tree_of k x) r) (sym u.is) (adds_on old last new region k most 1 (1 + most) t r u.grows (made t u.whole) (omega arith))

-- a fault at the parts
pub row_fault : (old new : Work) (region : Region) (k : Number) (p : Plan) (plans : Vec Plan Global) (b : End) (ps : List Plan) (d : Draft) (e : BuildFault) → p ≡ plan.List plans b → ps ≡ plans.items → IsDraft old region p d →
    ((ds : Drafts) → AreDrafts old region ps ds → Grows old new region k (all_make ds) × Lacks old (all_make ds) e) → Grows old new region k (makes d) × Lacks old (makes d) e
row_fault old new region k p plans b ps d e is same h made =
    let q = list_draft old region p d plans b is h in
    let a = made q.0 (subst (λ (xs : List Plan). AreDrafts old region xs q.0) (sym same) q.3) in
    subst (λ (x : Draft). Grows old new region k (makes x) × Lacks old (makes x) e) (sym q.2) (err_more old new region k (all_make q.0) (1 + (all_make q.0 + ending_makes q.1)) e (omega arith) a)

-- a fault at the end
pub end_fault : (old mid new : Work) (region : Region) (k : Number) (b : End) (v : Vec number.Tree Global) (d : Draft) (f : BuildFault) → RowReady old mid region k b v d →
    ((e : Ending) (us : Trees Identifier) → IsEnding mid region b e → PartsStand mid v.items us → AreNamed mid region v.items → Grows mid new region k (ending_makes e) × Lacks mid (ending_makes e) f) →
    Grows old new region k (makes d) × Lacks old (makes d) f
end_fault old mid new region k b v d f u made =
    let a = made u.last (row_of k u.row no_trees) u.ending u.stand u.named in
    subst (λ (x : Draft). Grows old new region k (makes x) × Lacks old (makes x) f) (sym u.is)
    (err_after old mid new region k (all_make u.row) (ending_makes u.last) (1 + (all_make u.row + ending_makes u.last)) f u.grows (omega arith) a)

-- ---- a tail

pub dotted_small : (w : Work) (region : Region) (k : Number) (b : End) (q : Box Plan) (x : Plan) → b ≡ end.Dotted q → x ≡ q.value → EndCanBeAdded w region k b → CanBeAdded w region k x
dotted_small w region k b q x is same h =
    let v = dotted_ending w region b h.0 q is h.1 in
    let size : tree_size (tree_of k v.0) ≤ max_tree_nodes = subst (λ (e : Ending). tail_size (tail_of k e) ≤ max_tree_nodes) v.1 h.2 in
    let deep : tree_depth (tree_of k v.0) ≤ max_tree_depth = subst (λ (e : Ending). tail_depth (tail_of k e) ≤ max_tree_depth) v.1 h.3 in
    (v.0, subst (λ (y : Plan). IsDraft w region y v.0) (sym same) v.3, size, deep)

-- the tail was added behind parts that were there
pub tail_added : (old new : Work) (region : Region) (k : Number) (b : End) (q : Box Plan) (x : Plan) (n : number.Tree) (e : Ending) (us : Trees Identifier) (ns : List number.Tree) → b ≡ end.Dotted q → x ≡ q.value → IsEnding old region b e → PartsStand old ns us → AreNamed old region ns →
    ((d : Draft) → IsDraft old region x d → Adds old new region k (makes d) (tree_of k d) (Ok n)) → AddsEnd old new region k (ending_makes e) (append us (ending_parts e)) (tail_of k e) ns (Ok (Some n))
tail_added old new region k b q x n e us ns is same h stands named made =
    let v = dotted_ending old region b e q is h in
    let a = made v.0 (subst (λ (y : Plan). IsDraft old region y v.0) (sym same) v.3) in
    let keeps = a.0.names.keeps in
    subst (λ (y : Ending). AddsEnd old new region k (ending_makes y) (append us (ending_parts y)) (tail_of k y) ns (Ok (Some n))) (sym v.1)
    (a.0, subst (PartsStand new ns) (sym (append_nil us)) (all_kept old new region a.0.trees keeps ns us stands), named_kept old new region a.0.trees keeps ns named, (listed_is k v.0 ∙ v.2, a.1), a.2)

pub tail_fault : (old new : Work) (region : Region) (k : Number) (b : End) (q : Box Plan) (x : Plan) (f : BuildFault) (e : Ending) → b ≡ end.Dotted q → x ≡ q.value → IsEnding old region b e →
    ((d : Draft) → IsDraft old region x d → Grows old new region k (makes d) × Lacks old (makes d) f) → Grows old new region k (ending_makes e) × Lacks old (ending_makes e) f
tail_fault old new region k b q x f e is same h made =
    let v = dotted_ending old region b e q is h in
    let a = made v.0 (subst (λ (y : Plan). IsDraft old region y v.0) (sym same) v.3) in
    subst (λ (y : Ending). Grows old new region k (ending_makes y) × Lacks old (ending_makes y) f) (sym v.1) a
