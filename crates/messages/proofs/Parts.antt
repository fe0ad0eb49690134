-- The bytes at a span, by two calls of `get`.
use Rattle.std.proofs.Common.{◌≡◌, ◌∙◌, ap, ℕ, ◌+◌, ◌<◌, ◌≤◌, ◌⊎◌, List, [], length, take, drop, slice_range, Option, Some, None, Bor, unwrap_or, MatchOption, lt-ltb, le-ltb, subst, arith, rules}
use Rattle.wire.specs.declared.block.Span.{Span}
use Rattle.wire.proofs.Varints.{from_place}
use Rattle.messages.specs.Numbers.{part_of}

-- What `get` answers of a range.
abbrev Got : List ℕ → (from to : ℕ) → Option (Bor (List ℕ)) → Type 0
Got bytes from to r =
    MatchOption r ((to < from) ⊎ (length bytes < to)) (λ x. (from ≤ to) × (to ≤ length bytes) × (x.now ≡ slice_range bytes from to) × (length x.now + from ≡ to))

-- Of a part that runs past the end no byte is given; one that lies within is given whole.
past : (bytes : List ℕ) (span : Span) → length bytes < span.place + span.size → [] ≡ part_of bytes span
unfolding part_of
past bytes span h = rw (lt-ltb (length bytes) (span.place + span.size) h)

within : (bytes : List ℕ) (span : Span) → span.place + span.size ≤ length bytes → take span.size (drop span.place bytes) ≡ part_of bytes span
unfolding part_of
within bytes span h = rw (le-ltb (length bytes) (span.place + span.size) h)

-- A range from the first byte on.
first : (bytes : List ℕ) (size : ℕ) → slice_range bytes 0 size ≡ take size bytes
first bytes size = search rules

of_none : (size : ℕ) → take {A = ℕ} size [] ≡ []
of_none size = search rules

-- `get` finds the part's first place or not, and then its end or not.
module _ (bytes : List ℕ) (span : Span) (none nothing : Bor (List ℕ)) (e : none.now ≡ []) (k : nothing.now ≡ []) where
  taken : (r s : Option (Bor (List ℕ))) → Got bytes span.place (length bytes) r → Got (unwrap_or r none).now 0 span.size s → (unwrap_or s nothing).now ≡ part_of bytes span
  taken None None g h = k ∙ past bytes span (omega (arith, g))
  taken None (Some x) g h =
      h.2 ∙ first _ _ ∙ ap (take span.size) e ∙ of_none span.size ∙ past bytes span (omega (arith, g))
  taken (Some rest) None g h = k ∙ past bytes span (omega (arith, g.3, h))
  taken (Some rest) (Some x) g h =
      h.2 ∙ first _ _ ∙ ap (take span.size) (g.2 ∙ from_place bytes span.place) ∙ within bytes span (omega (arith, h.1, g.3))

-- The same by what each call answers, the first of them for a range that ends where the bytes end.
pub part_taken :
    (bytes : List ℕ) (span : Span) (to : ℕ) (r s : Option (Bor (List ℕ))) (none nothing rest part : Bor (List ℕ)) →
    Got bytes span.place to r → to ≡ length bytes → rest ≡ unwrap_or r none →
    Got rest.now 0 span.size s → part ≡ unwrap_or s nothing →
    none.now ≡ [] → nothing.now ≡ [] → part.now ≡ part_of bytes span
part_taken bytes span to r s none nothing rest part g end p h q e k =
    ap (λ (b : Bor (List ℕ)). b.now) q
    ∙ taken bytes span none nothing e k r s (subst (λ (n : ℕ). Got bytes span.place n r) end g) (subst (λ (b : Bor (List ℕ)). Got b.now 0 span.size s) p h)
