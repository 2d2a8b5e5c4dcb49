-- Whether two segments are one run: the test decides that all but what they hold is equal.
use Rattle.std.proofs.Common.{◌≡◌, true, ◌&&◌, refl, sym, ◌∙◌, ap, append_assoc}
use Rattle.ft_base.proofs.Booleans.{all_four}
use Rattle.ft_sumdoc.specs.declared.summary.Seg.{Seg}
use Rattle.ft_sumdoc.specs.declared.summary.Seg.TheVariants.{Chars, Marker}
use Rattle.ft_sumdoc.specs.declared.summary.SegRec.{SegRec}
use Rattle.ft_sumdoc.specs.Stamps.{same_mark}
use Rattle.ft_sumdoc.specs.WellFormed.{are_alike, are_characters, same_props, same_stamps}
use Rattle.ft_msg.specs.SummaryOf.{joined, joined_bodies}
use Rattle.ft_marks.proofs.SameStamps.{same_mark-Decides, same_props-Decides, stamps_are_same}

-- two segments that differ in their characters at most
pub record Alike (a b : SegRec) : Type 0 where
  pub characters : are_characters a.body b.body ≡ true
  pub props : a.props ≡ b.props
  pub by : a.by ≡ b.by
  pub ins : a.ins ≡ b.ins
  pub dels : a.dels ≡ b.dels

pub alike : (a b : SegRec) → are_alike a b ≡ true → Alike a b
alike a b h =
    let parts = all_four (are_characters a.body b.body) (same_props a.props b.props) (same_mark a.by b.by) (same_stamps a.ins a.dels b.ins b.dels) h in
    let stamps = stamps_are_same a.ins b.ins a.dels b.dels parts.3 in
    record {
      characters = parts.0;
      props = (same_props-Decides a.props b.props).0 parts.1;
      by = (same_mark-Decides a.by b.by).0 parts.2;
      ins = stamps.0;
      dels = stamps.1;
    }

-- with the same characters they are equal
pub alike-with : (a b : SegRec) → Alike a b → (body : Seg) → record a { body = body } ≡ record b { body = body }
alike-with a b h body =
    ap (λ p. record a { body = body; props = p }) h.props
    ∙ ap (λ m. record a { body = body; props = b.props; by = m }) h.by
    ∙ ap (λ m. record a { body = body; props = b.props; by = b.by; ins = m }) h.ins
    ∙ ap (λ ms. record a { body = body; props = b.props; by = b.by; ins = b.ins; dels = ms }) h.dels

characters-behind : (a b x : Seg) → are_characters a b ≡ true → are_characters (joined_bodies a b) x ≡ are_characters b x
characters-behind (Chars f) (Chars t) (Chars u) h = refl
characters-behind (Chars f) (Chars t) (Marker m) h = refl
characters-behind (Chars f) (Marker m) x h = (cc)
characters-behind (Marker m) b x h = (cc)

characters-before : (x a b : Seg) → are_characters a b ≡ true → are_characters x (joined_bodies a b) ≡ are_characters x a
characters-before (Chars u) (Chars f) (Chars t) h = refl
characters-before (Marker m) (Chars f) (Chars t) h = refl
characters-before x (Chars f) (Marker m) h = (cc)
characters-before x (Marker m) b h = (cc)

bodies-together : (a b c : Seg) → are_characters a b ≡ true → are_characters b c ≡ true → joined_bodies a (joined_bodies b c) ≡ joined_bodies (joined_bodies a b) c
bodies-together (Chars f) (Chars t) (Chars u) h k = ap Chars (sym (append_assoc f t u))
bodies-together (Chars f) (Chars t) (Marker m) h k = (cc)
bodies-together (Chars f) (Marker m) c h k = (cc)
bodies-together (Marker m) b c h k = (cc)

-- a joined segment is alike with the next one where its back is
pub alike-behind : (a b x : SegRec) → are_alike a b ≡ true → are_alike (joined a b) x ≡ are_alike b x
alike-behind a b x h =
    ap (λ c. c && same_props b.props x.props && same_mark b.by x.by && same_stamps b.ins b.dels x.ins x.dels) (characters-behind a.body b.body x.body (alike a b h).characters)

-- and with the one before where its front is
pub alike-before : (x a b : SegRec) → are_alike a b ≡ true → are_alike x (joined a b) ≡ are_alike x a
alike-before x a b h =
    let same = alike a b h in
    ap (are_alike x) (sym (alike-with a b same (joined_bodies a.body b.body)))
    ∙ ap (λ c. c && same_props x.props a.props && same_mark x.by a.by && same_stamps x.ins x.dels a.ins a.dels) (characters-before x.body a.body b.body same.characters)

-- three segments join in either order
pub joined-together : (a b c : SegRec) → are_alike a b ≡ true → are_alike b c ≡ true → joined a (joined b c) ≡ joined (joined a b) c
joined-together a b c h k =
    ap (λ body. record c { body = body }) (bodies-together a.body b.body c.body (alike a b h).characters (alike b c k).characters)
