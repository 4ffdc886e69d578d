use Rattle.std.proofs.Common.{◌≡◌, ℕ, suc, pred, ◌+◌, ◌-◌, Bool, true, false, cond, ◌&&◌, ◌==◌, Option, None, Some, List, [], ◌∷◌, refl, ap, sym, subst, ◌∙◌}
use Rattle.std.specs.Prelude.{option_map, nat_lt}
use Rattle.std.proofs.lemmas.Bool.{eqb-true}
use Rattle.sql_tokens.specs.declared.splitter.place.Place.{Place}
use Rattle.sql_tokens.specs.declared.splitter.place.Place.TheVariants.{Between, AfterMinus, AfterSlash, Quoted, LineComment, Comment, CommentStar, CommentSlash, BackslashLine}
use Rattle.sql_tokens.specs.Script.{Content, Blanks, More, Line, Part, Text, is_blank, until, through, comment_length, comment, part, with_byte, texts_from, texts}
use Rattle.sql_tokens.specs.Places.{between, in_comment, after, blanks_if, content_at}

-- The texts that are found byte by byte are those of the parts.

abbrev pub one_more : Place → ℕ → Option Place → (Place → List Text) → List Text
one_more place b None texts = record { bytes = []; content = content_at place; cut = true } ∷ texts (Between true)
one_more place b (Some next) texts = with_byte b (texts next)

-- the texts, byte by byte
abbrev pub texts_at : Place → List ℕ → List Text
texts_at place [] = record { bytes = []; content = content_at place; cut = false } ∷ []
texts_at place (b ∷ bytes) = one_more place b (after place b) (λ next. texts_at next bytes)

-- the texts after the first byte of a part
abbrev behind : Part → List ℕ → List Text
behind p bytes = texts_from p.content (pred p.length) bytes

-- the texts of bytes that begin with a part
abbrev at_part : Part → List ℕ → List Text
at_part p bytes = texts_from p.content p.length bytes

record Agrees (bytes : List ℕ) : Type 0 where
  at_between : (f : Bool) → texts_at (Between f) bytes ≡ texts_from (blanks_if f) 0 bytes
  at_minus : (f : Bool) → texts_at (AfterMinus f) bytes ≡ behind (part (blanks_if f) 45 bytes) bytes
  at_slash : (f : Bool) → texts_at (AfterSlash f) bytes ≡ behind (part (blanks_if f) 47 bytes) bytes
  at_quoted : (q : ℕ) → texts_at (Quoted q) bytes ≡ texts_from More (through q bytes) bytes
  at_line : (f : Bool) → texts_at (LineComment f) bytes ≡ texts_from (blanks_if f) (until 10 bytes) bytes
  at_comment : (f : Bool) (d : ℕ) → texts_at (Comment f d) bytes ≡ at_part (comment (blanks_if f) bytes (comment_length d bytes)) bytes
  at_star : (f : Bool) (d : ℕ) → texts_at (CommentStar f d) bytes ≡ behind (comment (blanks_if f) (42 ∷ bytes) (comment_length d (42 ∷ bytes))) bytes
  at_inner : (f : Bool) (d : ℕ) → texts_at (CommentSlash f d) bytes ≡ behind (comment (blanks_if f) (47 ∷ bytes) (comment_length d (47 ∷ bytes))) bytes
  at_backslash : texts_at BackslashLine bytes ≡ texts_from Line (until 10 bytes) bytes

by_byte_along : (P : ℕ → Type 0) (k b : ℕ) (v : Bool) → (b == k) ≡ v → P k → ((b == k) ≡ false → P b) → P b
by_byte_along P k b true e same other = subst P (sym (eqb-true b k e)) same
by_byte_along P k b false e same other = other e

-- it holds of the byte, since it does where that is k, and where it isn't
by_byte : (P : ℕ → Type 0) (k b : ℕ) → P k → ((b == k) ≡ false → P b) → P b
by_byte P k b same other = by_byte_along P k b (b == k) refl same other

-- the lengths of comments

-- none, or one more than some number
abbrev IsMore : Option ℕ → Type 0
IsMore o = (rest : Option ℕ) × (o ≡ option_map suc rest)

more_by_two : (o : Option ℕ) → IsMore (option_map (λ n. suc (suc n)) o)
more_by_two None = (None, refl)
more_by_two (Some n) = (Some (suc n), refl)

more_in_either : (v : Bool) (o p : Option ℕ) → IsMore o → IsMore p → IsMore (cond v o p)
more_in_either true o p h k = h
more_in_either false o p h k = k

comment_is_more : (d b : ℕ) (bytes : List ℕ) → IsMore (comment_length d (b ∷ bytes))
comment_is_more d b [] = (None, refl)
comment_is_more d b (c ∷ bytes) =
    more_in_either (b == 47 && c == 42) _ _ (more_by_two (comment_length (d + 1) bytes))
    (more_in_either (b == 42 && c == 47) _ _
    (more_in_either (nat_lt 1 d) _ _ (more_by_two (comment_length (d - 1) bytes)) (Some 1, refl))
    (comment_length d (c ∷ bytes), refl))

-- a byte that neither begins nor ends a comment
comment_plain : (d b : ℕ) (bytes : List ℕ) → (b == 47) ≡ false → (b == 42) ≡ false → comment_length d (b ∷ bytes) ≡ option_map suc (comment_length d bytes)
comment_plain d b [] h k = refl
comment_plain d b (c ∷ bytes) h k = rw (h, k) refl

-- the first byte of a comment, and the bytes after it
split_more : (content : Content) (b : ℕ) (bytes : List ℕ) (o : Option ℕ) → IsMore o → with_byte b (behind (comment content (b ∷ bytes) o) bytes) ≡ at_part (comment content (b ∷ bytes) o) (b ∷ bytes)
split_more content b bytes o (None, e) = rw e refl
split_more content b bytes o (Some n, e) = rw e refl

-- a byte before a comment's rest belongs to the comment
at_part-suc : (content : Content) (b : ℕ) (bytes : List ℕ) (o : Option ℕ) → with_byte b (at_part (comment content bytes o) bytes) ≡ at_part (comment content (b ∷ bytes) (option_map suc o)) (b ∷ bytes)
at_part-suc content b bytes None = refl
at_part-suc content b bytes (Some n) = refl

behind-suc : (content : Content) (b : ℕ) (bytes : List ℕ) (o : Option ℕ) → behind (comment content (b ∷ bytes) (option_map suc o)) bytes ≡ at_part (comment content bytes o) bytes
behind-suc content b bytes None = refl
behind-suc content b bytes (Some n) = refl

behind-two : (content : Content) (a b : ℕ) (bytes : List ℕ) (o : Option ℕ) → with_byte b (at_part (comment content bytes o) bytes) ≡ behind (comment content (a ∷ b ∷ bytes) (option_map (λ n. suc (suc n)) o)) (b ∷ bytes)
behind-two content a b bytes None = refl
behind-two content a b bytes (Some n) = refl

module _ (bytes : List ℕ) (i : Agrees bytes) where
  plain_along : (f : Bool) (b : ℕ) (v : Bool) → with_byte b (texts_at (Between (f && v)) bytes) ≡ with_byte b (texts_from (cond v (blanks_if f) More) 0 bytes)
  plain_along true b true = ap (with_byte b) (i.at_between true)
  plain_along true b false = ap (with_byte b) (i.at_between false)
  plain_along false b true = ap (with_byte b) (i.at_between false)
  plain_along false b false = ap (with_byte b) (i.at_between false)

  between_blank : (b : ℕ) → texts_at (Between true) (b ∷ bytes) ≡ texts_from Blanks 0 (b ∷ bytes)
  between_blank b = let P : ℕ → Type 0 = λ b. texts_at (Between true) (b ∷ bytes) ≡ texts_from Blanks 0 (b ∷ bytes) in
      by_byte P 39 b (ap (with_byte 39) (i.at_quoted 39)) (λ h39.
      by_byte P 34 b (ap (with_byte 34) (i.at_quoted 34)) (λ h34.
      by_byte P 45 b (ap (with_byte 45) (i.at_minus true)) (λ h45.
      by_byte P 47 b (ap (with_byte 47) (i.at_slash true)) (λ h47.
      by_byte P 92 b (ap (with_byte 92) i.at_backslash) (λ h92.
      by_byte P 59 b (ap (λ (ts : List Text). record { bytes = []; content = Blanks; cut = true } ∷ ts) (i.at_between true)) (λ h59.
      rw (h39, h34, h45, h47, h92, h59) (plain_along true b (is_blank b))))))))

  between_more : (b : ℕ) → texts_at (Between false) (b ∷ bytes) ≡ texts_from More 0 (b ∷ bytes)
  between_more b = let P : ℕ → Type 0 = λ b. texts_at (Between false) (b ∷ bytes) ≡ texts_from More 0 (b ∷ bytes) in
      by_byte P 39 b (ap (with_byte 39) (i.at_quoted 39)) (λ h39.
      by_byte P 34 b (ap (with_byte 34) (i.at_quoted 34)) (λ h34.
      by_byte P 45 b (ap (with_byte 45) (i.at_minus false)) (λ h45.
      by_byte P 47 b (ap (with_byte 47) (i.at_slash false)) (λ h47.
      by_byte P 92 b (ap (with_byte 92) (i.at_between false)) (λ h92.
      by_byte P 59 b (ap (λ (ts : List Text). record { bytes = []; content = More; cut = true } ∷ ts) (i.at_between true)) (λ h59.
      rw (h39, h34, h45, h47, h92, h59) (plain_along false b (is_blank b))))))))

  between_step : (f : Bool) (b : ℕ) → texts_at (Between f) (b ∷ bytes) ≡ texts_from (blanks_if f) 0 (b ∷ bytes)
  between_step true b = between_blank b
  between_step false b = between_more b

  minus_step : (f : Bool) (b : ℕ) → texts_at (AfterMinus f) (b ∷ bytes) ≡ behind (part (blanks_if f) 45 (b ∷ bytes)) (b ∷ bytes)
  minus_step f b = by_byte (λ b. texts_at (AfterMinus f) (b ∷ bytes) ≡ behind (part (blanks_if f) 45 (b ∷ bytes)) (b ∷ bytes)) 45 b
      (ap (with_byte 45) (i.at_line f))
      (λ h. subst (λ v. one_more (AfterMinus f) b (cond v (Some (LineComment f)) (between false b)) (λ next. texts_at next bytes) ≡ behind (cond v (record { length = suc (until 10 (b ∷ bytes)); content = blanks_if f }) (record { length = 1; content = More })) (b ∷ bytes)) (sym h) (between_step false b))

  in_comment_step : (f : Bool) (d b : ℕ) → with_byte b (texts_at (in_comment f d b) bytes) ≡ at_part (comment (blanks_if f) (b ∷ bytes) (comment_length d (b ∷ bytes))) (b ∷ bytes)
  in_comment_step f d b = let P : ℕ → Type 0 = λ b. with_byte b (texts_at (in_comment f d b) bytes) ≡ at_part (comment (blanks_if f) (b ∷ bytes) (comment_length d (b ∷ bytes))) (b ∷ bytes) in
      by_byte P 42 b (ap (with_byte 42) (i.at_star f d) ∙ split_more (blanks_if f) 42 bytes _ (comment_is_more d 42 bytes)) (λ h42.
      by_byte P 47 b (ap (with_byte 47) (i.at_inner f d) ∙ split_more (blanks_if f) 47 bytes _ (comment_is_more d 47 bytes)) (λ h47.
      rw (h42, h47, comment_plain d b bytes h47 h42) (ap (with_byte b) (i.at_comment f d) ∙ at_part-suc (blanks_if f) b bytes (comment_length d bytes))))

  slash_step : (f : Bool) (b : ℕ) → texts_at (AfterSlash f) (b ∷ bytes) ≡ behind (part (blanks_if f) 47 (b ∷ bytes)) (b ∷ bytes)
  slash_step f b = by_byte (λ b. texts_at (AfterSlash f) (b ∷ bytes) ≡ behind (part (blanks_if f) 47 (b ∷ bytes)) (b ∷ bytes)) 42 b
      (ap (with_byte 42) (i.at_comment f 1) ∙ behind-two (blanks_if f) 47 42 bytes (comment_length 1 bytes))
      (λ h. rw h (between_step false b))

  star_ends : (f : Bool) (d : ℕ) (v : Bool) → with_byte 47 (texts_at (cond v (Comment f (d - 1)) (Between f)) bytes) ≡ behind (comment (blanks_if f) (42 ∷ 47 ∷ bytes) (cond v (option_map (λ n. suc (suc n)) (comment_length (d - 1) bytes)) (Some 2))) (47 ∷ bytes)
  star_ends f d true = ap (with_byte 47) (i.at_comment f (d - 1)) ∙ behind-two (blanks_if f) 42 47 bytes (comment_length (d - 1) bytes)
  star_ends f d false = ap (with_byte 47) (i.at_between f)

  star_step : (f : Bool) (d b : ℕ) → texts_at (CommentStar f d) (b ∷ bytes) ≡ behind (comment (blanks_if f) (42 ∷ b ∷ bytes) (comment_length d (42 ∷ b ∷ bytes))) (b ∷ bytes)
  star_step f d b = by_byte (λ b. texts_at (CommentStar f d) (b ∷ bytes) ≡ behind (comment (blanks_if f) (42 ∷ b ∷ bytes) (comment_length d (42 ∷ b ∷ bytes))) (b ∷ bytes)) 47 b
      (star_ends f d (nat_lt 1 d))
      (λ h. subst (λ v. with_byte b (texts_at (cond v (cond (nat_lt 1 d) (Comment f (d - 1)) (Between f)) (in_comment f d b)) bytes) ≡ behind (comment (blanks_if f) (42 ∷ b ∷ bytes) (cond v (cond (nat_lt 1 d) (option_map (λ n. suc (suc n)) (comment_length (d - 1) bytes)) (Some 2)) (option_map suc (comment_length d (b ∷ bytes))))) (b ∷ bytes)) (sym h) (in_comment_step f d b ∙ sym (behind-suc (blanks_if f) 42 (b ∷ bytes) (comment_length d (b ∷ bytes)))))

  inner_step : (f : Bool) (d b : ℕ) → texts_at (CommentSlash f d) (b ∷ bytes) ≡ behind (comment (blanks_if f) (47 ∷ b ∷ bytes) (comment_length d (47 ∷ b ∷ bytes))) (b ∷ bytes)
  inner_step f d b = by_byte (λ b. texts_at (CommentSlash f d) (b ∷ bytes) ≡ behind (comment (blanks_if f) (47 ∷ b ∷ bytes) (comment_length d (47 ∷ b ∷ bytes))) (b ∷ bytes)) 42 b
      (ap (with_byte 42) (i.at_comment f (d + 1)) ∙ behind-two (blanks_if f) 47 42 bytes (comment_length (d + 1) bytes))
      (λ h. subst (λ v. with_byte b (texts_at (cond v (Comment f (d + 1)) (in_comment f d b)) bytes) ≡ behind (comment (blanks_if f) (47 ∷ b ∷ bytes) (cond v (option_map (λ n. suc (suc n)) (comment_length (d + 1) bytes)) (option_map suc (comment_length d (b ∷ bytes))))) (b ∷ bytes)) (sym h) (in_comment_step f d b ∙ sym (behind-suc (blanks_if f) 47 (b ∷ bytes) (comment_length d (b ∷ bytes)))))

  quoted_along : (q b : ℕ) (v : Bool) → with_byte b (texts_at (cond v (Between false) (Quoted q)) bytes) ≡ texts_from More (cond v 1 (suc (through q bytes))) (b ∷ bytes)
  quoted_along q b true = ap (with_byte b) (i.at_between false)
  quoted_along q b false = ap (with_byte b) (i.at_quoted q)

  line_feed_after : (f : Bool) → with_byte 10 (texts_at (Between f) bytes) ≡ texts_from (blanks_if f) 0 (10 ∷ bytes)
  line_feed_after true = ap (with_byte 10) (i.at_between true)
  line_feed_after false = ap (with_byte 10) (i.at_between false)

  line_step : (f : Bool) (b : ℕ) → texts_at (LineComment f) (b ∷ bytes) ≡ texts_from (blanks_if f) (until 10 (b ∷ bytes)) (b ∷ bytes)
  line_step f b = by_byte (λ b. texts_at (LineComment f) (b ∷ bytes) ≡ texts_from (blanks_if f) (until 10 (b ∷ bytes)) (b ∷ bytes)) 10 b
      (line_feed_after f)
      (λ h. rw h (ap (with_byte b) (i.at_line f)))

  backslash_step : (b : ℕ) → texts_at BackslashLine (b ∷ bytes) ≡ texts_from Line (until 10 (b ∷ bytes)) (b ∷ bytes)
  backslash_step b = by_byte (λ b. texts_at BackslashLine (b ∷ bytes) ≡ texts_from Line (until 10 (b ∷ bytes)) (b ∷ bytes)) 10 b
      (ap (λ (ts : List Text). record { bytes = []; content = Line; cut = true } ∷ ts) (i.at_between true))
      (λ h. rw h (ap (with_byte b) i.at_backslash))

agrees : (bytes : List ℕ) → Agrees bytes
agrees [] = record {
  at_between = λ f. refl;
  at_minus = λ f. refl;
  at_slash = λ f. refl;
  at_quoted = λ q. refl;
  at_line = λ f. refl;
  at_comment = λ f d. refl;
  at_star = λ f d. refl;
  at_inner = λ f d. refl;
  at_backslash = refl;
}
agrees (b ∷ bytes) = let i = agrees bytes in record {
  at_between = λ f. between_step bytes i f b;
  at_minus = λ f. minus_step bytes i f b;
  at_slash = λ f. slash_step bytes i f b;
  at_quoted = λ q. quoted_along bytes i q b (b == q);
  at_line = λ f. line_step bytes i f b;
  at_comment = λ f d. in_comment_step bytes i f d b;
  at_star = λ f d. star_step bytes i f d b;
  at_inner = λ f d. inner_step bytes i f d b;
  at_backslash = backslash_step bytes i b;
}

-- byte by byte the same texts are found
pub texts_at_start : (bytes : List ℕ) → texts_at (Between true) bytes ≡ texts bytes
texts_at_start bytes = (agrees bytes).at_between true
