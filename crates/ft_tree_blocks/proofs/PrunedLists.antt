-- What pruning makes of the lists of nodes by stage.
use Rattle.std.proofs.Common.{◌≡◌, ℕ, ◌+◌, ◌<◌, All, Bool, true, false, cond, ◌&&◌, ◌||◌, nat_eq, List, [], ◌∷◌, ◌++◌, append_assoc, drop, filter, get_or, length, map, refl, sym, subst, ◌∙◌, ap}
use Rattle.std.specs.Option.{IsSome}
use Rattle.std.proofs.lemmas.Bool.{and_from, and_parts, or_right}
use Rattle.std.proofs.lemmas.List.{drop_more}
use Rattle.std.proofs.lemmas.List.Elements.{All-cons, All-drop, All-head, All-nil}
use Rattle.ft_block.specs.Leaves.{IsLeafIn, value_at}
use Rattle.ft_tree_leaves.specs.declared.leaves.TreeLeaf.{TreeLeaf}
use Rattle.ft_tree_blocks.specs.declared.next_stages.Wanted.TheVariants.{Anything}
use Rattle.ft_tree_blocks.specs.Pruned.{AreLeaves, all_pruned, pruned}
use Rattle.ft_tree_blocks.specs.Touched.{NodesOfStage, Tracks, holds, is_listed, is_some_node}
use Rattle.ft_tree_blocks.specs.Wanted.{is_wanted_at, is_wanted_by}
use Rattle.ft_tree_blocks.proofs.AckedNodes.{all-held}
use Rattle.ft_tree_blocks.proofs.StageSearch.{listed_first}
use Rattle.ft_tree_blocks.proofs.StepValues.{is_live}
use Rattle.ft_tree_blocks.proofs.TouchedLists.{eq_from, filled-listed, holds-filter, rising_filtered, rising_mapped, table3}

-- ---- a list that is filtered item by item, from the front

module _ {A : Type 0} (test : A → Bool) (ns : List A) (i : ℕ) (n : A) (within : i < length ns) (is : n ≡ get_or ns i n) where
  abbrev left : List A
  left = filter test (drop (i + 1) ns)

  next-filtered : (b : Bool) → test n ≡ b → filter test (drop i ns) ≡ cond b (n ∷ left) left
  next-filtered b h = ap (filter test) (drop_more ns i n within ∙ ap (λ u. u ∷ drop (i + 1) ns) (sym is)) ∙ ap (λ t. cond t (n ∷ left) left) h

  pub filtered-with : (ps qs all : List A) → test n ≡ true → qs ≡ ps ++ n ∷ [] → ps ++ filter test (drop i ns) ≡ all → qs ++ left ≡ all
  filtered-with ps qs all h new was =
      ap (λ us. us ++ left) new ∙ append_assoc ps (n ∷ []) left ∙ ap (λ us. ps ++ us) (sym (next-filtered true h)) ∙ was

  pub filtered-without : (ps qs all : List A) → test n ≡ false → qs ≡ ps → ps ++ filter test (drop i ns) ≡ all → qs ++ left ≡ all
  filtered-without ps qs all h new was = ap (λ us. us ++ left) new ∙ ap (λ us. ps ++ us) (sym (next-filtered false h)) ∙ was

-- what holds of all of a list holds of an item of another one that has the same rest
pub holds-next : {A : Type 0} (P : A → Type 0) (i : ℕ) (old now : List A) (x : A) → drop i now ≡ drop i old → i < length now → All P old → P (get_or now i x)
holds-next P i old now x same within all =
    All-head P (get_or now i x) (drop (i + 1) now) (subst (λ us. All P us) (sym same ∙ drop_more now i x within) (All-drop P i old all))

-- ---- what is listed

module _ {C : Type 0} (xs : List (ℕ × TreeLeaf C)) where
  pruned-by : (b h l : Bool) (j k z : ℕ) → nat_eq j k ≡ b
      → ((b && (h && is_wanted_at Anything xs j z)) || (l && is_wanted_at Anything xs k z)) ≡ (((b && h) || l) && is_wanted_at Anything xs k z)
  pruned-by true h l j k z e =
      ap (λ (m : ℕ). (h && is_wanted_at Anything xs m z) || (l && is_wanted_at Anything xs k z)) (eq_from j k e) ∙ table3 h l (is_wanted_at Anything xs k z)
  pruned-by false h l j k z e = refl

  pruned-listed : (k z : ℕ) (ss : List NodesOfStage) → is_listed (map (pruned xs) ss) k z ≡ (is_listed ss k z && is_wanted_at Anything xs k z)
  pruned-listed k z [] = refl
  pruned-listed k z (s ∷ ss) =
      ap (λ h. (nat_eq s.stage k && h) || is_listed (map (pruned xs) ss) k z) (holds-filter (is_wanted_at Anything xs s.stage) s.nodes z)
      ∙ ap (λ r. (nat_eq s.stage k && (holds s.nodes z && is_wanted_at Anything xs s.stage z)) || r) (pruned-listed k z ss)
      ∙ pruned-by (nat_eq s.stage k) (holds s.nodes z) (is_listed ss k z) s.stage k z refl

  pub all_pruned-listed : (k z : ℕ) (ss : List NodesOfStage) → is_listed (all_pruned xs ss) k z ≡ (is_listed ss k z && is_wanted_at Anything xs k z)
  all_pruned-listed k z ss = filled-listed k z (map (pruned xs) ss) ∙ pruned-listed k z ss

  -- the pruned lists are right
  pub tracks-pruned : (ss : List NodesOfStage) → Tracks xs ss → Tracks xs (all_pruned xs ss)
  tracks-pruned ss tracks = record {
    covers = λ k z x e t. all_pruned-listed k z ss
        ∙ and_from (is_listed ss k z) (is_wanted_at Anything xs k z) (tracks.covers k z x e t) (ap (is_wanted_by Anything k) e ∙ t);
    live = λ k z l. tracks.live k z (and_parts (is_listed ss k z) (is_wanted_at Anything xs k z) (sym (all_pruned-listed k z ss) ∙ l)).0;
    rising = rising_filtered (λ s. is_some_node s.nodes) (map (pruned xs) ss) (rising_mapped (pruned xs) (λ s. refl) ss tracks.rising);
  }

  -- each listed node is a leaf's
  pub leaves-listed : (ss : List NodesOfStage) → ((k z : ℕ) → is_listed ss k z ≡ true → IsSome (value_at xs z)) → AreLeaves xs ss
  leaves-listed [] live = All-nil (λ (s : NodesOfStage). All (λ id. IsLeafIn xs id) s.nodes)
  leaves-listed (s ∷ ss) live =
      All-cons (λ (t : NodesOfStage). All (λ id. IsLeafIn xs id) t.nodes) s ss
      (all-held (λ id. IsLeafIn xs id) s.nodes (λ z h. is_live xs z (live s.stage z (listed_first s ss z h))))
      (leaves-listed ss (λ k z l. live k z (or_right (nat_eq s.stage k && holds s.nodes z) (is_listed ss k z) l)))
