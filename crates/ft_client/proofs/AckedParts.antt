-- The client's own message: what the acknowledgement of a part makes of the whole, and what is known before it.
use Rattle.std.proofs.Common.{◌≡◌, ◌≤◌, ℕ, suc, ◌+◌, true, false, None, Result, Ok, Err, List, [], ◌∷◌, ◌++◌, refl, sym, ◌∙◌, ap, subst, map, length, take, drop}
use Rattle.std.specs.Prelude.{OnOk}
use Rattle.std.specs.List.{AllByRecursion, flat_map, list_all}
use Rattle.std.proofs.lemmas.List.Elements.{All-from_recursion, recursion_from_All}
use Rattle.ft_op.specs.Document.{Document}
use Rattle.ft_op.specs.Stages.{Stage}
use Rattle.ft_msg.specs.declared.messages.Entry.{Entry}
use Rattle.ft_msg.specs.Client.{NaiveClient, PendingEdit, stages_of}
use Rattle.ft_msg.specs.Process.{process_fault}
use Rattle.ft_base.proofs.Booleans.{both}
use Rattle.ft_laws_agreement.specs.Sequencing.{is_one_operation}
use Rattle.ft_laws_names.specs.GridFacts.{AreCounted, IsCounted}
use Rattle.ft_laws_names.specs.WellNamed.{AreWellNamed, RiseTo}
use Rattle.ft_laws_names.proofs.KeptGrids.{kept-counted}
use Rattle.ft_replica.specs.Own.{HeldDocument, HoldsOne, NamesFit, acknowledged, oldest_stages}
use Rattle.ft_string.specs.Calls.{AreOldest, HoldsAcked, HoldsOldest}
use Rattle.ft_string.specs.Holds.{HoldsText, IsTextSound}
use Rattle.ft_string.specs.State.{KeepsRest as KeepsText}
use Rattle.ft_matrix.specs.Conditions.{KeepsRest as KeepsGrid}
use Rattle.ft_matrix.specs.HoldsGrid.{HoldsGrid}
use Rattle.ft_client.specs.declared.own.TreeOwn.{TreeOwn}
use Rattle.ft_client.specs.declared.stages.OwnStage.{OwnStage}
use Rattle.ft_client.specs.Acks.{AcksPart, HoldsAckedGrid, HoldsFrontGrid, acks_grid, acks_text, last_from}
use Rattle.ft_client.specs.Holds.{HoldsTree}
use Rattle.ft_client.specs.Parts.{are_of_one_edit, is_grid_part, is_text_part, own_stage}
use Rattle.ft_client.proofs.OneEdits.{of-one, or-grid}
use Rattle.ft_client.proofs.AckedWhole.{are-oldest, cut, grid-acked, grid-parts, left-are, taken-are, text-acked, text-parts}
use Rattle.ft_client.proofs.Known.{client-sound, cols-changes, cols-marks, held-counted, held-sound, is-named, is-ready, rows-changes, rows-marks}

-- ---- one part

pub on-text : {E : Type 0} (r : Result (Unit {0}) E) (own : List OwnStage) (s c : ℕ) (old new : TreeOwn) → list_all (λ t. is_text_part t.part) own ≡ true
    → ((last : ℕ) (doc : Document) (mine rest : List Stage) → AreOldest 1 (1 + last_from 0 own) mine rest
    → IsTextSound last doc (mine ++ rest) → HoldsText old.text doc (mine ++ rest)
    → OnOk r (HoldsAcked new.text s c mine rest doc)) → OnOk r (KeepsText old.text new.text) → new ≡ record old { text = new.text } → OnOk
    r (AcksPart own s c old new)
on-text (Ok u) own s c old new h f k e = acks_text h (λ last doc mine rest a i t. f last doc mine rest a i t) k e
on-text (Err x) own s c old new h f k e = tt

pub on-grid : {E : Type 0} (r : Result (Unit {0}) E) (own : List OwnStage) (s c : ℕ) (old new : TreeOwn) → list_all (λ t. is_grid_part t.part) own ≡ true
    → ((last : ℕ) (doc : Document) (mine rest : List Stage) → map own_stage mine ≡ own → AreWellNamed last doc (mine ++ rest)
    → AreCounted doc mine → HoldsGrid old.table doc (mine ++ rest)
    → OnOk r (HoldsAckedGrid new.table s c mine rest doc)) → OnOk r (KeepsGrid old.table new.table) → new
    ≡ record old { table = new.table } → OnOk r (AcksPart own s c old new)
on-grid (Ok u) own s c old new h f k e = acks_grid h (λ last doc mine rest n w a t. f last doc mine rest n w a t) k e
on-grid (Err x) own s c old new h f k e = tt

-- ---- what is known before

-- the stages are the first ones
record IsFront (ts us : List Stage) : Type 0 where
  pub behind : List Stage
  pub is : us ≡ ts ++ behind

counted-front : (doc : Document) (ts us : List Stage) → AreCounted doc (ts ++ us) → AreCounted doc ts
counted-front doc ts us h = All-from_recursion (λ (t : Stage). IsCounted doc t.stage t.sub_operation) ts
    (front ts (recursion_from_All (λ (t : Stage). IsCounted doc t.stage t.sub_operation) (ts ++ us) h))
  where
    front : (vs : List Stage) → AllByRecursion (λ t. IsCounted doc t.stage t.sub_operation) (vs ++ us)
        → AllByRecursion (λ t. IsCounted doc t.stage t.sub_operation) vs
    front [] g = tt
    front (v ∷ vs) g = (g.0, front vs g.1)

module _ (s : TreeOwn) (entry : Entry) (count : ℕ) (known : HoldsOne HoldsTree s (λ p. (process_fault p entry ≡ None) × (count ≤ length (stages_of p)) × (length (oldest_stages p.pending) ≡ count))) where
  abbrev pub p : NaiveClient
  p = known.client

  stage-length : (ts : List Stage) → length (map own_stage ts) ≡ length ts
  stage-length [] = refl
  stage-length (t ∷ ts) = ap suc (stage-length ts)

  pub enough : count ≤ length s.stages.items
  enough = subst (λ n. count ≤ n) (sym (ap length known.document.stages ∙ stage-length (stages_of p))) known.fits.1

  -- the first stages are those of the oldest edit
  oldest-first : (es : List PendingEdit) → IsFront (oldest_stages es) (flat_map (λ e. e.stages) es)
  oldest-first [] = record { behind = []; is = refl }
  oldest-first (e ∷ es) = record { behind = flat_map (λ (e : PendingEdit). e.stages) es; is = refl }

  oldest-one : (es : List PendingEdit) → list_all is_one_operation es ≡ true → are_of_one_edit (map own_stage (oldest_stages es)) ≡ true
  oldest-one [] h = refl
  oldest-one (e ∷ es) h = of-one e (both (is_one_operation e) (list_all is_one_operation es) h).0

  pub one-part : (own : List OwnStage) → own ≡ take count s.stages.items → list_all (λ t. is_text_part t.part) own ≡ false
      → list_all (λ t. is_grid_part t.part) own ≡ true
  one-part own o none =
      let f = oldest-first p.pending in
      let front = taken-are s.stages.items (stages_of p) (oldest_stages p.pending) f.behind count known.document.stages f.is known.fits.2 in
      or-grid own (subst (λ ts. are_of_one_edit ts ≡ true) (sym (o ∙ front)) (oldest-one p.pending (is-ready known.start p known.made).edits)) none

  pub oldest-text : (own : List OwnStage) → own ≡ take count s.stages.items → list_all (λ t. is_text_part t.part) own ≡ true
      → HoldsOldest p.last_stage 1 (1 + last_from 0 own) s.text
  oldest-text own o h =
      let c = cut (stages_of p) count known.fits.1 in
      let front = taken-are s.stages.items (stages_of p) c.front c.behind count known.document.stages c.is c.counted in
      let sound = client-sound known.start p known.made known.document.numbers.fits in
      record {
        doc = p.doc;
        mine = c.front;
        rest = c.behind;
        oldest = subst (λ ts. AreOldest 1 (1 + last_from 0 ts) c.front c.behind) (sym (o ∙ front))
            (are-oldest p.last_stage c.front c.behind (subst (λ ts. RiseTo 0 p.last_stage ts) c.is sound.rise)
            (text-parts c.front (subst (λ ts. list_all (λ (t : OwnStage). is_text_part t.part) ts ≡ true) (o ∙ front) h)));
        sound = subst (λ ts. IsTextSound p.last_stage p.doc ts) c.is sound;
        holds = subst (λ ts. HoldsText s.text p.doc ts) c.is known.document.text;
      }

  pub front-grid : (own : List OwnStage) → own ≡ take count s.stages.items → HoldsFrontGrid p.last_stage own s.table
  front-grid own o =
      let c = cut (stages_of p) count known.fits.1 in
      record {
        doc = p.doc;
        mine = c.front;
        rest = c.behind;
        numbers = sym (o ∙ taken-are s.stages.items (stages_of p) c.front c.behind count known.document.stages c.is c.counted);
        named = subst (λ ts. AreWellNamed p.last_stage p.doc ts) c.is (is-named known.start p known.made);
        counted = counted-front p.doc c.front c.behind (subst (AreCounted p.doc) c.is (kept-counted known.start p known.made));
        holds = subst (λ ts. HoldsGrid s.table p.doc ts) c.is known.document.table;
      }

  -- ---- and after it
  pub own-acked : (own : List OwnStage) (before mid new : TreeOwn) → before ≡ record s { stages = before.stages } → own ≡ take count s.stages.items
      → new.stages.items ≡ drop count s.stages.items → AcksPart own entry.msg.seq entry.origin before mid
      → new ≡ record mid { stages = new.stages; numbers = new.numbers }
      → new.numbers ≡ record mid.numbers { number = entry.msg.seq; minimum = entry.msg.min }
      → (held : HeldDocument) (mine rest : List Stage) → NamesFit held → held.stages ≡ mine ++ rest → length mine ≡ count → HoldsTree s held
      → HoldsTree new (acknowledged entry mine rest held)
  own-acked own before mid new b o l (acks_text h f k same) u numbers held mine rest named parts counted holds =
      let front = taken-are s.stages.items held.stages mine rest count holds.stages parts counted in
      let behind = left-are s.stages.items held.stages mine rest count holds.stages parts counted in
      let on = text-parts mine (subst (λ ts. list_all (λ (t : OwnStage). is_text_part t.part) ts ≡ true) (o ∙ front) h) in
      let sound = held-sound known.start p known.made s known.low known.document held named holds in
      let text : new.text ≡ mid.text = ap (λ (x : TreeOwn). x.text) u in
      let acked = f held.last held.doc mine rest
      (subst (λ ts. AreOldest 1 (1 + last_from 0 ts) mine rest) (sym (o ∙ front)) (are-oldest held.last mine rest (subst (λ ts. RiseTo 0 held.last ts) parts named.rise) on))
      (subst (λ ts. IsTextSound held.last held.doc ts) parts sound)
      (subst (λ t. HoldsText t held.doc (mine ++ rest)) (sym (ap (λ (x : TreeOwn). x.text) b))
      (subst (λ ts. HoldsText s.text held.doc ts) parts holds.text)) in
      text-acked s new held named holds entry mine rest parts (l ∙ behind)
      (numbers ∙ ap (λ (x : TreeOwn). record x.numbers { number = entry.msg.seq; minimum = entry.msg.min }) same
      ∙ ap (λ (x : TreeOwn). record x.numbers { number = entry.msg.seq; minimum = entry.msg.min }) b) on
      (record {
        marks = rows-marks known.start p known.made s known.low known.document held named holds;
        changes = rows-changes known.start p known.made s known.low known.document held named holds;
      })
      (record {
        marks = cols-marks known.start p known.made s known.low known.document held named holds;
        changes = cols-changes known.start p known.made s known.low known.document held named holds;
      })
      (subst (λ t. HoldsAcked t entry.msg.seq entry.origin mine rest held.doc) (sym text) acked)
      (subst (KeepsText s.text) (sym text) (subst (λ t. KeepsText t mid.text) (ap (λ (x : TreeOwn). x.text) b) k))
      (ap (λ (x : TreeOwn). x.table) u ∙ ap (λ (x : TreeOwn). x.table) same ∙ ap (λ (x : TreeOwn). x.table) b)
  own-acked own before mid new b o l (acks_grid h f k same) u numbers held mine rest named parts counted holds =
      let front = taken-are s.stages.items held.stages mine rest count holds.stages parts counted in
      let behind = left-are s.stages.items held.stages mine rest count holds.stages parts counted in
      let on = grid-parts mine (subst (λ ts. list_all (λ (t : OwnStage). is_grid_part t.part) ts ≡ true) (o ∙ front) h) in
      let sound = held-sound known.start p known.made s known.low known.document held named holds in
      let table : new.table ≡ mid.table = ap (λ (x : TreeOwn). x.table) u in
      let acked = f held.last held.doc mine rest (sym (o ∙ front)) (subst (λ ts. AreWellNamed held.last held.doc ts) parts named)
      (counted-front held.doc mine rest (subst (AreCounted held.doc) parts (held-counted known.start p known.made s known.low known.document held named holds)))
      (subst (λ g. HoldsGrid g held.doc (mine ++ rest)) (sym (ap (λ (x : TreeOwn). x.table) b)) (subst (λ ts. HoldsGrid s.table held.doc ts) parts holds.table)) in
      grid-acked s new held named holds entry mine rest parts (l ∙ behind)
      (numbers ∙ ap (λ (x : TreeOwn). record x.numbers { number = entry.msg.seq; minimum = entry.msg.min }) same
      ∙ ap (λ (x : TreeOwn). record x.numbers { number = entry.msg.seq; minimum = entry.msg.min }) b) on sound
      (subst (λ g. HoldsAckedGrid g entry.msg.seq entry.origin mine rest held.doc) (sym table) acked)
      (subst (KeepsGrid s.table) (sym table) (subst (λ g. KeepsGrid g mid.table) (ap (λ (x : TreeOwn). x.table) b) k))
      (ap (λ (x : TreeOwn). x.text) u ∙ ap (λ (x : TreeOwn). x.text) same ∙ ap (λ (x : TreeOwn). x.text) b)
