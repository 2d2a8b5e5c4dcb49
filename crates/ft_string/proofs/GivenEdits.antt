-- What giving the stages of one edit makes of a whole shared text.
use Rattle.std.proofs.Common.{◌≡◌, ℕ, ◌+◌, ◌≤◌, ◌<◌, All, Bool, true, false, List, [], ◌∷◌, ◌++◌, refl, sym, ◌∙◌, ap, arith, map, filter, flat_map, option_map, append-nil}
use Rattle.std.proofs.lemmas.Grind.{flat_map-append}
use Rattle.std.specs.List.{list_all}
use Rattle.ft_base.proofs.Booleans.{both}
use Rattle.ft_interval_store.specs.State.{CollectionsState, text_elements}
use Rattle.ft_tree_leaves.specs.declared.text.TextContent.{TextContent}
use Rattle.ft_msg.specs.Indexed.{indexed_stage}
use Rattle.ft_msg.specs.Reconnection.{carried_stage}
use Rattle.ft_op.specs.declared.operations.BaseOp.{BaseOp}
use Rattle.ft_op.specs.declared.operations.ChannelOp.TheVariants.{Text}
use Rattle.ft_op.specs.Document.{Document}
use Rattle.ft_op.specs.Operation.{OnGrid, OnIntervals, OnText, SubOperation}
use Rattle.ft_op.specs.Pieces.{op_of, pieces}
use Rattle.ft_op.specs.Stages.{Stage}
use Rattle.ft_laws_agreement.specs.Sequencing.{Each}
use Rattle.ft_tree.specs.State.{TreeState}
use Rattle.ft_named.proofs.Bares.{AreElements, from-bare}
use Rattle.ft_named.proofs.Lists.{each-append, each-weaker, filter-append, map-append}
use Rattle.ft_string.specs.Bare.{text_content}
use Rattle.ft_string.specs.Calls.{AreNext, HoldsGiven}
use Rattle.ft_msg.specs.Overlap.{is_on_intervals}
use Rattle.ft_rebase.proofs.StageListLemmas.{filter-whole}
use Rattle.ft_string.specs.Holds.{IsTextSound, element_stages, interval_stages, is_on_elements, is_on_text}
use Rattle.ft_string.specs.Parts.{state_of}
use Rattle.ft_string.specs.Rejoins.{GivesOps, again_of, due, has_piece, left_over, one_of}
use Rattle.ft_string.specs.State.{element_stage}
use Rattle.ft_string.specs.declared.pending.PendingOp.{PendingOp}
use Rattle.ft_string.proofs.GivenStages.{AreOps, each-of, ops-due, ops-split, sends-one, sent-all}
use Rattle.ft_string.proofs.Normalised.{carried-all}
use Rattle.ft_string.proofs.Stages.{each-filter}

none-kept : {A : Type 0} (test other : A → Bool) → ((x : A) → test x ≡ true → other x ≡ false) → (xs : List A) → list_all test xs ≡ true → filter other xs ≡ []
none-kept test other f [] h = refl
none-kept test other f (x ∷ xs) h = let p = both (test x) (list_all test xs) h in rw (f x p.0) (none-kept test other f xs p.1)

not-interval : (t : Stage) → is_on_elements t.sub_operation ≡ true → is_on_intervals t.sub_operation ≡ false
not-interval t h = step t.sub_operation h
  where
    step : (s : SubOperation) → is_on_elements s ≡ true → is_on_intervals s ≡ false
    step (OnText op) g = refl
    step (OnIntervals op) g = (cc)
    step (OnGrid op) g = (cc)

each-elements : (us : List Stage) → list_all (λ t. is_on_elements t.sub_operation) us ≡ true → Each (λ t. is_on_elements t.sub_operation ≡ true) us
each-elements [] h = tt
each-elements (u ∷ us) h = let p = both (is_on_elements u.sub_operation) (list_all (λ t. is_on_elements t.sub_operation) us) h in (p.0, each-elements us p.1)

all-elements : (us : List Stage) → Each (λ t. is_on_elements t.sub_operation ≡ true) us → list_all (λ t. is_on_elements t.sub_operation) us ≡ true
all-elements [] h = refl
all-elements (u ∷ us) h = rw (h.0, all-elements us h.1) refl

-- ---- the stages of an edit among the others

module _ (given first end : ℕ) (front mine behind : List Stage) (next : AreNext given first end front mine behind) (order : given < first)
    (some : first < end) (doc : Document) where
  abbrev gone : List Stage
  gone = flat_map (carried_stage doc) front

  pub low : Each (λ t. t.stage ≤ given) gone
  low =
      carried-all doc (λ t. t.stage ≤ given) (λ t p. p) front (each-weaker (λ t l. less t.stage l) front (each-of (λ (t : Stage). t.stage < given + 1) front next.before))
    where
      less : (n : ℕ) → n < given + 1 → n ≤ given
      less n l = omega arith

  pub mine-within : Each (λ t. (first ≤ t.stage) × (t.stage < end) × (is_on_text t.sub_operation ≡ true)) mine
  mine-within = each-of (λ (t : Stage). (first ≤ t.stage) × (t.stage < end) × (is_on_text t.sub_operation ≡ true)) mine next.within

  pub behind-from : Each (λ t. end ≤ t.stage) behind
  behind-from = each-of (λ (t : Stage). end ≤ t.stage) behind next.behind

  mine-high : Each (λ t. given < t.stage) mine
  mine-high = each-weaker (λ t h. more t.stage h.0) mine mine-within
    where
      more : (n : ℕ) → first ≤ n → given < n
      more n l = omega arith

  behind-high : Each (λ t. given < t.stage) behind
  behind-high = each-weaker (λ t h. more t.stage h) behind behind-from
    where
      more : (n : ℕ) → end ≤ n → given < n
      more n l = omega arith

  -- ---- where the edit is on elements

  module _ (on : list_all (λ t. is_on_elements t.sub_operation) mine ≡ true) where
    no-intervals : interval_stages mine ≡ []
    no-intervals = none-kept (λ t. is_on_elements t.sub_operation) (λ t. is_on_intervals t.sub_operation) not-interval mine on

    carried-elements : Each (λ t. is_on_elements t.sub_operation ≡ true) (flat_map (carried_stage doc) mine)
    carried-elements = carried-all doc (λ t. is_on_elements t.sub_operation ≡ true) (λ t p. p) mine (each-elements mine on)

    no-carried : interval_stages (flat_map (carried_stage doc) mine) ≡ []
    no-carried =
        none-kept (λ t. is_on_elements t.sub_operation) (λ t. is_on_intervals t.sub_operation) not-interval (flat_map (carried_stage doc) mine)
        (all-elements (flat_map (carried_stage doc) mine) carried-elements)

    pub interval-parts : interval_stages (gone ++ (mine ++ behind)) ≡ interval_stages gone ++ interval_stages behind
    interval-parts =
        filter-append (λ t. is_on_intervals t.sub_operation) gone (mine ++ behind)
        ∙ ap (λ us. interval_stages gone ++ us) (filter-append (λ t. is_on_intervals t.sub_operation) mine behind ∙ ap (λ us. us ++ interval_stages behind) no-intervals)

    interval-after : interval_stages (flat_map (carried_stage doc) (front ++ mine) ++ behind) ≡ interval_stages gone ++ interval_stages behind
    interval-after =
        ap (λ us. interval_stages (us ++ behind)) (flat_map-append (carried_stage doc) front mine)
        ∙ filter-append (λ t. is_on_intervals t.sub_operation) (gone ++ flat_map (carried_stage doc) mine) behind
        ∙ ap (λ us. us ++ interval_stages behind) (filter-append (λ t. is_on_intervals t.sub_operation) gone (flat_map (carried_stage doc) mine)
        ∙ ap (λ us. interval_stages gone ++ us) no-carried ∙ append-nil (interval_stages gone))

    element-parts : element_stages (gone ++ (mine ++ behind)) ≡ element_stages gone ++ (mine ++ element_stages behind)
    element-parts =
        filter-append (λ t. is_on_elements t.sub_operation) gone (mine ++ behind)
        ∙ ap (λ us. element_stages gone ++ us) (filter-append (λ t. is_on_elements t.sub_operation) mine behind
        ∙ ap (λ us. us ++ element_stages behind) (filter-whole (λ t. is_on_elements t.sub_operation) mine on))

    element-after : element_stages (flat_map (carried_stage doc) (front ++ mine) ++ behind)
        ≡ (element_stages gone ++ flat_map (carried_stage doc) mine) ++ element_stages behind
    element-after =
        ap (λ us. element_stages (us ++ behind)) (flat_map-append (carried_stage doc) front mine)
        ∙ filter-append (λ t. is_on_elements t.sub_operation) (gone ++ flat_map (carried_stage doc) mine) behind
        ∙ ap (λ us. us ++ element_stages behind) (filter-append (λ t. is_on_elements t.sub_operation) gone (flat_map (carried_stage doc) mine)
        ∙ ap (λ us. element_stages gone ++ us) (filter-whole (λ t. is_on_elements t.sub_operation) (flat_map (carried_stage doc) mine)
        (all-elements (flat_map (carried_stage doc) mine) carried-elements)))

    module _ (last : ℕ) (text : IsTextSound last doc (front ++ (mine ++ behind))) (tree : TreeState TextContent) (c : CollectionsState) (again ops rest kept : List PendingOp) (usable : Bool)
        (was : All (λ t. t.stage ≤ given) again) (ahead : All (λ t. given < t.stage) ops)
        (holds : HoldsGiven (state_of tree c (again ++ ops) given usable) doc front (mine ++ behind)) (sends : List BaseOp)
        (gives : GivesOps (text_elements tree) end ops rest again kept sends) where
      list : AreElements text_content (text_elements tree) doc.text.items
      list = from-bare text_content (text_elements tree) doc.text.items holds.elements

      parts : AreOps doc again (element_stages gone) × AreOps doc ops (mine ++ element_stages behind)
      parts =
          ops-split doc given again ops (element_stages gone) (mine ++ element_stages behind) was ahead
          (each-filter (λ t. t.stage ≤ given) (λ t. is_on_elements t.sub_operation) gone low)
          (each-append (λ t. given < t.stage) mine (element_stages behind) mine-high (each-filter (λ t. given < t.stage) (λ t. is_on_elements t.sub_operation) behind behind-high))
          (holds.ops ∙ ap (map (indexed_stage doc)) element-parts)

      taken : AreOps doc (due end ops) mine × AreOps doc (left_over end ops) (element_stages behind)
      taken =
          ops-due doc end ops mine (element_stages behind) (each-weaker (λ t h. h.1) mine mine-within)
          (each-filter (λ t. end ≤ t.stage) (λ t. is_on_elements t.sub_operation) behind behind-from) parts.1

      pub gives-op : option_map Text (one_of sends) ≡ op_of (flat_map (pieces doc) mine)
      gives-op =
          ap (λ os. option_map Text (one_of os)) gives.sends ∙ sends-one (flat_map (again_of (text_elements tree)) (due end ops))
          ∙ ap op_of (sent-all last doc (front ++ (mine ++ behind)) text behind list front mine (due end ops) on taken.0 refl).0

      pub gives-held : (more : ℕ) (other : Bool) → HoldsGiven (state_of tree c (kept ++ rest) more other) doc (front ++ mine) behind
      gives-held more other =
          let on_again = (sent-all last doc (front ++ (mine ++ behind)) text behind list front mine (due end ops) on taken.0 refl).1 in
          record {
            elements = holds.elements;
            made = holds.made;
            intervals = holds.intervals;
            ops = ap (λ os. map element_stage (os ++ rest)) gives.keeps
                ∙ ap (λ os. map element_stage ((again ++ filter (has_piece (text_elements tree)) (due end ops)) ++ os)) gives.rest_is
                ∙ map-append element_stage (again ++ filter (has_piece (text_elements tree)) (due end ops)) (left_over end ops)
                ∙ ap (λ xs. xs ++ map element_stage (left_over end ops)) (map-append element_stage again (filter (has_piece (text_elements tree)) (due end ops))
                ∙ ap (λ xs. xs ++ map element_stage (filter (has_piece (text_elements tree)) (due end ops))) parts.0
                ∙ ap (λ xs. map (indexed_stage doc) (element_stages gone) ++ xs) on_again
                ∙ sym (map-append (indexed_stage doc) (element_stages gone) (flat_map (carried_stage doc) mine)))
                ∙ ap (λ xs. map (indexed_stage doc) (element_stages gone ++ flat_map (carried_stage doc) mine) ++ xs) taken.1
                ∙ sym (map-append (indexed_stage doc) (element_stages gone ++ flat_map (carried_stage doc) mine) (element_stages behind))
                ∙ ap (map (indexed_stage doc)) (sym element-after);
            interval_ops = holds.interval_ops ∙ ap (map (indexed_stage doc)) (interval-parts ∙ sym interval-after);
          }

      pub gives-rest : AreOps doc rest (element_stages behind)
      gives-rest = ap (map element_stage) gives.rest_is ∙ taken.1
