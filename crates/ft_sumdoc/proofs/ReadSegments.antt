-- Written segments are read back, in their chunks.
use Rattle.std.proofs.Common.{◌≡◌, ℕ, List, [], ◌∷◌, map, Option, Some, Ok, codes, refl, ap}
use Rattle.std.specs.Prelude.{IsTrue}
use Rattle.std.proofs.lemmas.Str.{chars-encodes}
use Rattle.serde_json.specs.Data.{Data}
use Rattle.ft_json.specs.Fields.{field_name}
use Rattle.ft_json.specs.Canonical.{value_of}
use Rattle.ft_json.specs.declared.fields.Field.TheVariants.{SegmentMarker, SegmentProps, SegmentText}
use Rattle.ft_props.specs.Properties.{PropertyList}
use Rattle.ft_op.specs.Representable.{KeysAreTexts}
use Rattle.ft_op.proofs.ReadFields.{count_written, field_is}
use Rattle.ft_op.proofs.ReadProperties.{named}
use Rattle.ft_sumdoc.specs.declared.summary.Seg.{Seg}
use Rattle.ft_sumdoc.specs.declared.summary.Seg.TheVariants.{Chars, Marker}
use Rattle.ft_sumdoc.specs.declared.summary.SegRec.{SegRec}
use Rattle.ft_sumdoc.specs.Representable.{IsRepresentableContent, IsRepresentableSegmentRecord}
use Rattle.ft_sumdoc.specs.Segments.{GivenSegment, given_body, segment_form, segment_props, some_characters}
use Rattle.ft_sumdoc.specs.Stamps.{Bounds, unless_universal}
use Rattle.ft_sumdoc.specs.Valid.{HasValues, IsSegment, is_segment_body}
use Rattle.ft_sumdoc.specs.Values.{kept_segment}
use Rattle.ft_sumdoc.specs.Written.{author_beside, given_characters, given_mark, given_marks, given_props, given_ref_type, written_segment_record}
use Rattle.ft_sumdoc.proofs.ReadForms.{kept_props_back, props_form_back}
use Rattle.ft_sumdoc.proofs.ReadStamps.{AreCounts, author_back, author_counts, author_of_back, insertion_back, stamps_back, stamps_counts, stamps_of}

-- ---- a segment

-- the fields of a segment
abbrev pub segment_fields : SegRec → List (List ℕ × Option Data)
segment_fields seg =
    (codes "a", given_mark (author_beside seg.ins seg.by))
    ∷ (codes "i", given_mark (unless_universal seg.ins))
    ∷ (codes "m", given_ref_type seg.body)
    ∷ (codes "p", given_props seg.props)
    ∷ (codes "r", given_marks seg.dels)
    ∷ (codes "t", given_characters seg.body)
    ∷ []

-- what a written segment gives
abbrev pub given_segment : SegRec → GivenSegment
given_segment seg = record { body = seg.body; props = map (named value_of) seg.props; stamps = stamps_of (author_beside seg.ins seg.by) seg.ins seg.dels }

-- a segment that is valid and of texts
pub record IsSound (b : Bounds) (seg : SegRec) : Type 0 where
  pub texts : IsRepresentableSegmentRecord seg
  pub valid : IsSegment b seg

body_back : (body : Seg) → IsRepresentableContent body → IsTrue (is_segment_body body) → given_body (given_characters body) (given_ref_type body) ≡ Some body
body_back (Chars []) r h = (cc)
body_back (Chars (c ∷ cs)) r h = ap some_characters (chars-encodes (c ∷ cs) r)
body_back (Marker ref_type) r h = rw (count_written ref_type h)

given_props_back : (props : PropertyList) → KeysAreTexts props → HasValues props → segment_props (given_props props) ≡ Some (map (named value_of) props)
given_props_back [] texts h = refl
given_props_back (p ∷ props) texts h = props_form_back (p ∷ props) texts h

pub segment_back : (b : Bounds) → AreCounts b → (seg : SegRec) → IsSound b seg → segment_form 2 (written_segment_record seg) ≡ Some (given_segment seg)
unfolding field_name
segment_back b c seg h =
    let fs = segment_fields seg in
    let counts = stamps_counts b seg.ins seg.dels c h.valid.stamps in
    rw (
      field_is fs SegmentText (given_characters seg.body) refl,
      field_is fs SegmentMarker (given_ref_type seg.body) refl,
      field_is fs SegmentProps (given_props seg.props) refl,
      body_back seg.body h.texts.0 h.valid.body,
      given_props_back seg.props h.texts.1.1 h.valid.props,
      author_back (author_beside seg.ins seg.by) fs refl (author_counts b seg.ins seg.by c h.valid.author),
      stamps_back (author_beside seg.ins seg.by) (unless_universal seg.ins) seg.dels fs refl refl counts.0 counts.1,
    )

pub kept_segment_back : (b : Bounds) → (seg : SegRec) → IsSound b seg → kept_segment (given_segment seg) ≡ Ok seg
kept_segment_back b seg h = rw (kept_props_back seg.props h.valid.props, insertion_back seg.ins, author_of_back b seg.ins seg.by h.valid.author)
