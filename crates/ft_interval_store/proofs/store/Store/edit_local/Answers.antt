use Rattle.std.proofs.Common.{◌≡◌, not, true, List, [], ◌∷◌, ◌++◌, Option, refl, sym, ◌∙◌, ap, subst}
use Rattle.ft_base.specs.Scan.{len}
use Rattle.ft_block.specs.declared.leaves.LenView.TheVariants.{Stage}
use Rattle.ft_tree_leaves.specs.Elements.{seen_in}
use Rattle.ft_op.specs.declared.operations.Ends.{Ends}
use Rattle.ft_op.specs.declared.operations.TextOp.{TextOp}
use Rattle.ft_op.specs.Document.{ends_of, given_ends_fit}
use Rattle.ft_interval_store.specs.declared.pending.Operation.{Operation}
use Rattle.ft_interval_store.specs.Ends.{places_of_given}
use Rattle.ft_interval_store.specs.State.{CollectionsState, IsAboveAll, IsInOrder, IsLive, KeepsReferences, placed, placed_operations, text_elements, with_operation}
use Rattle.ft_interval_store.proofs.KeptEnds.{pushed-in_order, pushed-places, pushed-references}
use Rattle.ft_interval_store.proofs.LocalEdits.{shown-unless-added}
use Rattle.ft_interval_store.proofs.store.Store.edit_local.Goals as goal

pub returns-clause-name : goal.returns-clause-name
returns-clause-name c =
    sym (c.is_shown-shown.ensures c.args.tree.now) ∙ shown-unless-added c.is_add-adds.result c.is_shown-shown.result c.else-adds.either c.else-not-adds.either ∙ ap not c.is_add-adds.ensures

pub returns-then-not-given_ends_fit-clause-refused : goal.returns-then-not-given_ends_fit-clause-refused
returns-then-not-given_ends_fit-clause-refused c =
    let xs = text_elements c.args.tree.now in
    let seen = seen_in (Stage c.args.stage) in
    let shown = sym (c.is_shown-shown.ensures c.args.tree.now)
    ∙ shown-unless-added c.is_add-adds.result c.is_shown-shown.result c.else-adds.either c.else-not-adds.either ∙ ap not c.is_add-adds.ensures in
    let fit : c.given_ends_fit.result ≡ given_ends_fit (len seen xs) (ends_of c.args.op.now) =
    c.given_ends_fit.ensures ∙ ap (λ n. given_ends_fit n c.given_ends-given.result) c.length-length.ensures ∙ ap (λ g. given_ends_fit (len seen xs) g) c.given_ends-given.ensures in
    (shown, sym fit ∙ c.if-not-given_ends_fit.true, c.length-length.ensures, (refl, refl))

pub add_ends-requires-clause-fit : goal.add_ends-requires-clause-fit
add_ends-requires-clause-fit c =
    sym (ap (λ n. given_ends_fit n c.given_ends-given.result) c.length-length.ensures) ∙ sym c.given_ends_fit.ensures ∙ c.if-not-given_ends_fit.false

pub invariant_of-self-2 : goal.invariant_of-self-2
invariant_of-self-2 c =
    let old : CollectionsState = record { acked = c.self.inside.acked; pending = c.self.inside.pending.items } in
    let t : Operation = record { stage = c.args.stage; op = c.args.op.now; ends = c.in_ok-ends.ends } in
    let before = c.args.tree.now.refs in
    let after = c.add_ends.new.tree.refs in
    let places = places_of_given (seen_in (Stage c.args.stage)) (text_elements c.args.tree.now) c.given_ends-given.result in
    let live : IsLive before old = subst (λ x. IsLive before x) (sym c.self.view_is) c.requires.live in
    let above : IsAboveAll c.args.stage old = subst (λ x. IsAboveAll c.args.stage x) (sym c.self.view_is) c.requires.above in
    let now = pushed-in_order places old t before after c.self.invariant live c.in_ok-ends.ensures.ends c.requires.some above in
    let P : List Operation → Type 0 = λ ps. (let x : CollectionsState = record { acked = c.self.inside.acked; pending = ps } in IsInOrder x) in
    subst P (sym c.in-Ok.ensures.ok) now

pub returns-clause-taken : goal.returns-clause-taken
returns-clause-taken c =
    let old : CollectionsState = record { acked = c.self.inside.acked; pending = c.self.inside.pending.items } in
    let t : Operation = record { stage = c.args.stage; op = c.args.op.now; ends = c.in_ok-ends.ends } in
    let before = c.args.tree.now.refs in
    let after = c.add_ends.new.tree.refs in
    let xs = text_elements c.args.tree.now in
    let seen = seen_in (Stage c.args.stage) in
    let given = c.given_ends-given.result in
    let places = places_of_given seen xs given in
    let live : IsLive before old = subst (λ x. IsLive before x) (sym c.self.view_is) c.requires.live in
    let with = λ (ps : List Operation). (let x : CollectionsState = record { acked = c.self.inside.acked; pending = ps } in x) in
    let put = λ (e : List Operation). (let x : CollectionsState = record (placed before old) { pending = placed_operations before old.pending ++ e } in x) in
    let pass : c.given_ends_fit.result ≡ true = c.if-not-given_ends_fit.false in
    let fit : c.given_ends_fit.result ≡ given_ends_fit (len seen xs) (ends_of c.args.op.now) =
    c.given_ends_fit.ensures ∙ ap (λ n. given_ends_fit n given) c.length-length.ensures ∙ ap (λ g. given_ends_fit (len seen xs) g) c.given_ends-given.ensures in
    let one = λ (o : TextOp) (g : Option Ends). (let x : Operation = record { stage = c.args.stage; op = o; ends = places_of_given seen xs g } in x ∷ []) in
    let refs = pushed-references places old t before after live c.in_ok-ends.ensures.ends in
    record {
      pending = ap (λ ps. placed after (with ps)) c.in-Ok.ensures.ok
          ∙ pushed-places places old t before after live c.in_ok-ends.ensures.ends
          ∙ ap (λ g. put (one c.args.op.now g)) c.given_ends-given.ensures
          ∙ ap (λ x. with_operation seen xs c.args.stage c.args.op.now (placed before x)) c.self.view_is;
      fits = sym fit ∙ pass;
      refs = subst (λ x. KeepsReferences x (with c.push_copy.new.pending.items) before after) c.self.view_is
          (subst (λ ps. KeepsReferences old (with ps) before after) (sym c.in-Ok.ensures.ok) refs);
      rest = c.in_ok-ends.ensures.rest;
    }
