-- Text and table are compacted, each for itself: together they hold a document that keeps the client's.
use Rattle.std.proofs.Common.{◌≡◌, ◌≤◌, ℕ, ◌+◌, All, Bool, true, false, not, List, [], ◌∷◌, refl, sym, ◌∙◌, ap, subst, arith}
use Rattle.std.specs.List.{AllByRecursion, list_all, list_any}
use Rattle.ft_msg.specs.Compacted.{stage_holds_col, stage_holds_row}
use Rattle.std.proofs.lemmas.List.Elements.{recursion_from_All}
use Rattle.ft_base.specs.declared.stamps.Stamp.{Stamp}
use Rattle.ft_base.specs.declared.stamps.Stamp.TheVariants.{Acked, Local}
use Rattle.ft_base.specs.Scan.{len}
use Rattle.ft_base.specs.Visibility.{is_acked}
use Rattle.ft_base.proofs.Booleans.{both}
use Rattle.ft_op.specs.Document.{Document}
use Rattle.ft_props.specs.Element.{ElementId, NamelessElement, is_pending, is_sequenced}
use Rattle.ft_props.specs.Compaction.{KeepsList, has_collectable_removal, is_insertion_at_or_below}
use Rattle.ft_props.specs.Steps.{Sequence}
use Rattle.ft_laws_agreement.proofs.CompactedScans.{Alike, len-kept}
use Rattle.ft_laws_compaction.specs.Free.{AreFree}
use Rattle.ft_msg.specs.Answers.{count_held}
use Rattle.ft_msg.specs.Client.{NaiveClient, floor, stages_of}
use Rattle.ft_msg.proofs.ReplicaStarts.{keeps-itself}
use Rattle.ft_laws_names.specs.WellNamed.{IsWellNamed}
use Rattle.ft_replica.specs.Own.{Compacts, HoldsOne, held_by}
use Rattle.ft_string.specs.Calls.{CompactsText, HoldsFree, is_held}
use Rattle.ft_string.specs.Holds.{IsTextSound}
use Rattle.ft_matrix.specs.Conditions.{AreFreeUnits, HoldsKept}
use Rattle.ft_client.specs.declared.own.TreeOwn.{TreeOwn}
use Rattle.ft_client.specs.Holds.{HoldsTree}
use Rattle.ft_client.specs.Numbers.{NumberState}
use Rattle.ft_client.proofs.Known.{client-sound, free-units, held-free, held-sound, tombstones}
use Rattle.ft_client.proofs.Parts.{grid-same, text-same}

-- ---- counts

pending-alike : (low : ℕ) (held : ElementId → Bool) → Alike low held is_pending
pending-alike low held = record {
  gone = λ e g u. ap not (both (is_sequenced e) (has_collectable_removal low e.dels) g).0;
  old = λ e f. old e.ins f;
}
  where
    old : (t : Stamp) → is_insertion_at_or_below low t ≡ true → not true ≡ not (is_acked t)
    old (Acked s c) f = refl
    old (Local k) f = (cc)

count-kept : {low : ℕ} {held : ElementId → Bool} {kept list : Sequence} → KeepsList low held kept list → count_held kept ≡ count_held list
count-kept {low} {held} {kept} {list} k = ap (λ n. n + len is_pending kept.items) k.made ∙ ap (λ n. list.made + n) (len-kept is_pending (pending-alike low held) k.items)

-- ---- what is known

module _ (s : TreeOwn) (seq : ℕ) (known : HoldsOne HoldsTree s (λ p. floor p ≡ seq)) where
  pub holds-free : HoldsFree known.client.last_stage seq s.text
  holds-free = record {
    doc = known.client.doc;
    stages = stages_of known.client;
    sound = client-sound known.start known.client known.made known.document.numbers.fits;
    free = subst (λ n. AreFree n (is_held known.client.doc (stages_of known.client)) known.client.doc.text.items) known.fits
        (tombstones known.start known.client known.made).text;
    holds = known.document.text;
  }

  pub are-free : AreFreeUnits seq s.table
  are-free = subst (λ n. AreFreeUnits n s.table) known.fits (free-units known.start known.client known.made s known.low known.document)

  module _ (low : ℕ) (p : NaiveClient) (named : IsWellNamed p) (h : HoldsTree s (held_by low p)) where
    pub sound-of : IsTextSound p.last_stage p.doc (stages_of p)
    sound-of = held-sound known.start known.client known.made s known.low known.document (held_by low p) named h

    pub free-of : AreFree seq (is_held p.doc (stages_of p)) p.doc.text.items
    free-of = subst (λ n. AreFree n (is_held p.doc (stages_of p)) p.doc.text.items) known.fits
        (held-free known.start known.client known.made s known.low known.document (held_by low p) named h)

  -- a document that is left as it is
  pub itself : (low : ℕ) (p : NaiveClient) → floor p ≡ seq → HoldsTree s (held_by low p) → Compacts HoldsTree s p
  itself low p e h = record {
    fewer = p.doc;
    keeps = (keeps-itself p).doc;
    cells = λ row col a b. refl;
    document = record {
      text = h.text;
      table = h.table;
      stages = h.stages;
      numbers = h.numbers;
      settled = record {
        text = h.settled.text;
        table = h.settled.table;
        text_given = h.settled.text_given;
        table_given = h.settled.table_given;
        text_floor = below known.document.settled.text_floor;
        table_floor = below known.document.settled.table_floor;
      };
    };
  }
    where
      below : {n : ℕ} → n ≤ known.low → n ≤ floor p
      below f = let above = known.above in let at = known.fits in omega (arith, f, above, at, e)

-- ---- the whole

pub compacted : (old new : TreeOwn) (low seq : ℕ) (p : NaiveClient) → floor p ≡ seq → HoldsTree old (held_by low p)
    → CompactsText seq new.text p.doc (stages_of p)
    → HoldsKept seq new.table p.doc (stages_of p) → new ≡ record old { text = new.text; table = new.table } → new.text.floor ≡ seq
    → new.text.given ≡ 0 → new.text.usable ≡ true
    → new.table.floor ≡ seq → new.table.given ≡ old.table.given → new.table.usable ≡ old.table.usable → Compacts HoldsTree new p
compacted old new low seq p e h t k same text_floor text_given text_usable table_floor table_given table_usable =
    let stages = stages_of p in
    let cells = ap (λ (d : Document). d.cells) k.keeps.rest in
    let numbers = ap (λ (s : TreeOwn). s.numbers) same in
    record {
      fewer = record p.doc { text = t.kept; rows = k.kept.rows; cols = k.kept.cols };
      keeps = record {
        text = subst (λ n. KeepsList n (is_held p.doc stages) t.kept p.doc.text) (sym e) t.keeps;
        rows = subst (λ n. KeepsList n (λ i. list_any (stage_holds_row i) stages) k.kept.rows p.doc.rows) (sym e) k.keeps.rows;
        cols = subst (λ n. KeepsList n (λ i. list_any (stage_holds_col i) stages) k.kept.cols p.doc.cols) (sym e) k.keeps.cols;
        cells = record { values = λ row col a b. refl; none = λ row col a. a };
        rest = refl;
      };
      cells = λ row col a b. refl;
      document = record {
        text = text-same (record p.doc { text = t.kept }) (record p.doc { text = t.kept; rows = k.kept.rows; cols = k.kept.cols }) new.text
            stages stages refl refl refl refl t.holds;
        table = grid-same k.kept (record p.doc { text = t.kept; rows = k.kept.rows; cols = k.kept.cols }) new.table stages stages refl refl (sym cells) refl k.holds;
        stages = ap (λ (s : TreeOwn). s.stages.items) same ∙ h.stages;
        numbers = record {
          number = ap (λ (n : NumberState). n.number) numbers ∙ h.numbers.number;
          minimum = ap (λ (n : NumberState). n.minimum) numbers ∙ h.numbers.minimum;
          skipped = ap (λ (n : NumberState). n.skipped) numbers ∙ h.numbers.skipped;
          other = ap (λ (n : NumberState). n.other) numbers ∙ h.numbers.other;
          rows = ap (λ (n : NumberState). n.rows) numbers ∙ h.numbers.rows ∙ sym (count-kept k.keeps.rows);
          cols = ap (λ (n : NumberState). n.cols) numbers ∙ h.numbers.cols ∙ sym (count-kept k.keeps.cols);
          last = ap (λ (n : NumberState). n.last) numbers ∙ h.numbers.last;
          fits = h.numbers.fits;
        };
        settled = record {
          text = text_usable;
          table = table_usable ∙ h.settled.table;
          text_given = text_given;
          table_given = table_given ∙ h.settled.table_given;
          text_floor = at-most text_floor;
          table_floor = at-most table_floor;
        };
      };
    }
  where
    at-most : {n : ℕ} → n ≡ seq → n ≤ floor p
    at-most f = omega (arith, f, e)

pub all-not : (seq : ℕ) (es : List NamelessElement) → All (λ e. has_collectable_removal seq e.stamps.dels ≡ false) es
    → list_all (λ e. not (has_collectable_removal seq e.stamps.dels)) es ≡ true
all-not seq es h = each es (recursion_from_All (λ (e : NamelessElement). has_collectable_removal seq e.stamps.dels ≡ false) es h)
  where
    each : (xs : List NamelessElement) → AllByRecursion (λ e. has_collectable_removal seq e.stamps.dels ≡ false) xs
        → list_all (λ e. not (has_collectable_removal seq e.stamps.dels)) xs ≡ true
    each [] g = refl
    each (x ∷ xs) g = rw (g.0, each xs g.1) refl
