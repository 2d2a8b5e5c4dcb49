-- The segments of the text of a summary: their form, and how many elements they have.
use Rattle.std.specs.Prelude.{ℕ, ◌+◌, Bool, true, false, List, [], ◌∷◌, Option, Some, None, option_map, length}
use Rattle.serde_json.specs.Data.{Data}
use Rattle.ft_json.specs.declared.fields.Field.TheVariants.{SegmentMarker, SegmentProps, SegmentText}
use Rattle.ft_json.specs.Reading.{count, field, items}
use Rattle.ft_props.specs.Properties.{Characters}
use Rattle.ft_sumdoc.specs.declared.summary.Mark.{Mark}
use Rattle.ft_sumdoc.specs.declared.summary.Seg.{Seg}
use Rattle.ft_sumdoc.specs.declared.summary.Seg.TheVariants.{Chars, Marker}
use Rattle.ft_sumdoc.specs.declared.summary.SegRec.{SegRec}
use Rattle.ft_sumdoc.specs.Forms.{◌>>=◌, GivenProps, characters, each_of, props_form}
use Rattle.ft_sumdoc.specs.Stamps.{GivenStamps, author_form, stamps_with}

-- ---- form

-- a segment as an object gives it, its values not yet read
pub record GivenSegment : Type 0 where
  pub body : Seg
  pub props : GivenProps
  pub stamps : GivenStamps

-- characters, at least one
abbrev pub some_characters : Characters → Option Seg
some_characters [] = None
some_characters (c ∷ cs) = Some (Chars (c ∷ cs))

-- what a segment holds whose fields for characters and for a marker are these, just one of which is there
abbrev pub given_body : Option Data → Option Data → Option Seg
given_body (Some text) None = characters text >>= some_characters
given_body None (Some marker) = option_map (λ ref_type. Marker ref_type) (count marker)
given_body _ _ = None

-- the properties of a segment whose field for them is this
abbrev pub segment_props : Option Data → Option GivenProps
segment_props None = Some []
segment_props (Some d) = props_form d

-- the segment that a value is, in a summary of this version
abbrev pub segment_form : ℕ → Data → Option GivenSegment
segment_form version d = do
  body ← given_body (field d SegmentText) (field d SegmentMarker)
  props ← segment_props (field d SegmentProps)
  author ← author_form version d
  stamps ← stamps_with author d
  Some (record { body = body; props = props; stamps = stamps })

-- whether there is an item
abbrev pub has_some : {A : Type 0} → List A → Bool
has_some [] = false
has_some (x ∷ xs) = true

-- a list with at least one item
abbrev pub not_empty : {A : Type 0} → List A → Option (List A)
not_empty [] = None
not_empty (x ∷ xs) = Some (x ∷ xs)

-- the chunk of segments that an array is
abbrev pub chunk_form : ℕ → Data → Option (List GivenSegment)
chunk_form version d = do
  ds ← items d
  segs ← each_of (segment_form version) ds
  not_empty segs

-- the chunks of the text that an array is
abbrev pub text_form : ℕ → Data → Option (List (List GivenSegment))
text_form version d = items d >>= each_of (chunk_form version)

-- ---- elements

-- how many elements a segment has
abbrev pub body_length : Seg → ℕ
body_length (Chars text) = length text
body_length (Marker ref_type) = 1

-- how many elements segments have
abbrev pub text_length : List SegRec → ℕ
text_length [] = 0
text_length (seg ∷ segs) = body_length seg.body + text_length segs

-- how many there are where nothing removed them
abbrev pub unless_removed : List Mark → ℕ → ℕ
unless_removed [] n = n
unless_removed (m ∷ ms) n = 0

-- how many elements of segments aren't removed
abbrev pub unremoved_text : List SegRec → ℕ
unremoved_text [] = 0
unremoved_text (seg ∷ segs) = unless_removed seg.dels (body_length seg.body) + unremoved_text segs
