-- `reading` finds what the bytes spell, and nothing else.
use Rattle.std.proofs.Common.{◌≡◌, ℕ, ◌<◌, Bool, true, eqb, List, [], ◌∷◌, ◌++◌, length, IfSome, Some, None, Ok, Err, codes, Option, Result, sym, refl, ap, ◌∙◌, subst, append_assoc, append-nil, arith, length-append, option_map, option_and_then, take_while, ok_or}
use Rattle.std.proofs.lemmas.Bool.{eqb-false, ne_eqb, cond_both}
use Rattle.std.proofs.lemmas.Bool.Decides.{nat_tests}
use Rattle.std.proofs.lemmas.List.Sums.{take_while-cons}
use Rattle.std.proofs.lemmas.Option.{IfSome_then}
use Rattle.std.specs.Option.{option_or}
use Rattle.refusal.specs.declared.Refusal.{Refusal}
use Rattle.refusal.specs.declared.Refusal.TheVariants.{NotStatement}
use Rattle.pdl.specs.declared.Next.{Next}
use Rattle.pdl.specs.Text.{blank, digit, bit, AllOf, SomeOf, Stops, Blanks, Gap, Bits, Number, Spoken, write, get, apply, Spells, Says, Unsaid, Gives, Shorter}
use Rattle.pdl.specs.Parse.{behind, unblanked, past, run, numbered, after_gap, number_after, digits_after, get_after, write_after, write_at, get_at, apply_at, stated, begun, reading, told, heard}
use Rattle.pdl.proofs.Spans.{front_behind, front_all, front_whole, behind_whole, past_found}

-- ---- what is found is spelled
found_then : {X Y : Type 0} (f : X → Option Y) (o : Option X) (P : X → Type 0) (Q : Y → Type 0) → IfSome o P → ((x : X) → P x → IfSome (f x) Q) → IfSome (option_and_then f o) Q
found_then f None P Q h k = tt
found_then f (Some x) P Q h k = k x h

found_map : {X Y : Type 0} (f : X → Y) (o : Option X) (P : X → Type 0) (Q : Y → Type 0) → IfSome o P → ((x : X) → P x → Q (f x)) → IfSome (option_map f o) Q
found_map f None P Q h k = tt
found_map f (Some x) P Q h k = k x h

found_or : {X : Type 0} (o q : Option X) (P : X → Type 0) → IfSome o P → IfSome q P → IfSome (option_or o q) P
found_or None q P h k = k
found_or (Some x) q P h k = h

front_begins : (p : ℕ → Bool) (b : ℕ) (bs : List ℕ) → p b ≡ true → take_while p (b ∷ bs) ≡ b ∷ take_while p bs
front_begins p b bs e = take_while-cons p b bs ∙ rw e refl

run_found : (p : ℕ → Bool) (bs : List ℕ) → IfSome (run p bs) (λ r. SomeOf p r.0 × (bs ≡ r.0 ++ r.1))
run_found p [] = tt
run_found p (b ∷ bs) =
    cond_both (p b) (Some (take_while p (b ∷ bs), behind p (b ∷ bs))) None (λ o. IfSome o (λ r. SomeOf p r.0 × (b ∷ bs ≡ r.0 ++ r.1)))
    (λ e. (rw (front_begins p b bs e) (e, front_all p bs), front_behind p (b ∷ bs)))
    (λ _. tt)

numbered_found : (bs : List ℕ) → IfSome (numbered bs) (λ r. Number r.0 × (bs ≡ r.0 ++ r.1))
numbered_found [] = tt
numbered_found (b ∷ bs) =
    let P : Option (List ℕ × List ℕ) → Type 0 = λ o. IfSome o (λ r. Number r.0 × (b ∷ bs ≡ r.0 ++ r.1)) in
    cond_both (eqb b 48) None (run digit (b ∷ bs)) P (λ _. tt)
    (λ e. cond_both (digit b) (Some (take_while digit (b ∷ bs), behind digit (b ∷ bs))) None P
    (λ d. (rw (front_begins digit b bs d) (eqb-false b 48 e, (d, front_all digit bs)), front_behind digit (b ∷ bs)))
    (λ _. tt))

-- a gap and a word, and what a grammar says of the rest
abbrev AfterGap : List ℕ → (List ℕ → Type 0) → List ℕ → List ℕ × List ℕ → Type 0
AfterGap word P bs r = (gap : List ℕ) × Gap gap × P r.0 × (bs ≡ gap ++ (word ++ (r.0 ++ r.1)))

gap_found : (word bs : List ℕ) → IfSome (after_gap word bs) (λ rest. (gap : List ℕ) × Gap gap × (bs ≡ gap ++ (word ++ rest)))
gap_found word bs =
    found_then _ (run blank bs) _ _ (run_found blank bs) (λ g hg.
    IfSome_then (past word g.1) (past_found word g.1) (λ rest h. (g.0, hg.0, hg.1 ∙ ap (λ l. g.0 ++ l) h)))

read_found : (word : List ℕ) (P : List ℕ → Type 0) (read : List ℕ → Option (List ℕ × List ℕ)) → ((bs : List ℕ) → IfSome (read bs) (λ r. P r.0 × (bs ≡ r.0 ++ r.1))) → (bs : List ℕ) → IfSome (option_and_then read (after_gap word bs)) (AfterGap word P bs)
read_found word P read h bs =
    found_then read (after_gap word bs) _ _ (gap_found word bs) (λ a (g, hg, e).
    IfSome_then (read a) (h a) (λ r hr. (g, hg, hr.0, e ∙ ap (λ l. g ++ (word ++ l)) hr.1)))

number_found : (bs : List ℕ) → IfSome (number_after bs) (AfterGap (codes "i") Number bs)
number_found bs = read_found (codes "i") Number numbered numbered_found bs

digits_found : (bs : List ℕ) → IfSome (digits_after bs) (AfterGap (codes "0b") Bits bs)
digits_found bs = read_found (codes "0b") Bits (run bit) (run_found bit) bs

-- the bytes spell it, before its rest
abbrev Found : List ℕ → Spoken × List ℕ → Type 0
Found bs s = (said : List ℕ) × Spells s.0 said × (bs ≡ said ++ s.1)

get_found : (bs : List ℕ) → IfSome (get_at bs) (Found bs)
get_found bs =
    found_then get_after (past (codes "iGet") bs) _ _ (past_found (codes "iGet") bs) (λ after he.
    found_then _ (number_after after) _ _ (number_found after) (λ n (g, hg, hn, e).
    found_map _ (past (codes ";") n.1) _ _ (past_found (codes ";") n.1) (λ rest hr.
    (_, (g, hg, hn, refl), rw (he, e, hr) (simp append_assoc)))))

write_found : (bs : List ℕ) → IfSome (write_at bs) (Found bs)
write_found bs =
    found_then write_after (past (codes "iWrite") bs) _ _ (past_found (codes "iWrite") bs) (λ after he.
    found_then _ (number_after after) _ _ (number_found after) (λ n (g, hg, hn, e).
    found_then _ (digits_after n.1) _ _ (digits_found n.1) (λ ds (g', hg', hds, e').
    found_map _ (past (codes ";") ds.1) _ _ (past_found (codes ";") ds.1) (λ rest hr.
    (_, (g, g', hg, hg', hn, hds, refl), rw (he, e, e', hr) (simp append_assoc))))))

apply_found : (bs : List ℕ) → IfSome (apply_at bs) (Found bs)
apply_found bs = found_map _ (past (codes "iApply;") bs) _ _ (past_found (codes "iApply;") bs) (λ rest e. (codes "iApply;", refl, e))

stated_found : (bs : List ℕ) → IfSome (stated bs) (Found bs)
stated_found bs = found_or _ (apply_at bs) _ (found_or (write_at bs) (get_at bs) _ (write_found bs) (get_found bs)) (apply_found bs)

-- ---- what is spelled is found
run_whole : (p : ℕ → Bool) (bs rest : List ℕ) → SomeOf p bs → Stops p rest → run p (bs ++ rest) ≡ Some (bs, rest)
run_whole p [] rest h s = absurd h
run_whole p (b ∷ bs) rest h s =
    let all = (b ∷ bs) ++ rest in
    let is : run p all ≡ Some (take_while p all, behind p all) = rw h.0 refl in
    cc (is, front_whole p (b ∷ bs) rest h s, behind_whole p (b ∷ bs) rest h s)

numbered_whole : (bs rest : List ℕ) → Number bs → Stops digit rest → numbered (bs ++ rest) ≡ Some (bs, rest)
numbered_whole [] rest h s = absurd h
numbered_whole (b ∷ bs) rest h s = rw (ne_eqb b 48 h.0, run_whole digit (b ∷ bs) rest h.1 s) refl

gap_stops : (gap rest : List ℕ) → Gap gap → Stops digit (gap ++ rest)
gap_stops [] rest h = absurd h
gap_stops (b ∷ gap) rest h = grind (arith, nat_tests)

-- what follows the first word of a statement
abbrev get_tail : List ℕ → List ℕ → List ℕ → List ℕ
get_tail gap n rest = gap ++ (codes "i" ++ (n ++ (codes ";" ++ rest)))

abbrev write_tail : List ℕ → List ℕ → List ℕ → List ℕ → List ℕ → List ℕ
write_tail gap n gap' ds rest = gap ++ (codes "i" ++ (n ++ (gap' ++ (codes "0b" ++ (ds ++ (codes ";" ++ rest))))))

number_whole : (gap n rest : List ℕ) → Gap gap → Number n → Stops digit rest → number_after (gap ++ (105 ∷ (n ++ rest))) ≡ Some (n, rest)
number_whole gap n rest hg hn s = rw (run_whole blank gap (105 ∷ (n ++ rest)) hg refl) (numbered_whole n rest hn s)

digits_whole : (gap ds rest : List ℕ) → Gap gap → Bits ds → Stops bit rest → digits_after (gap ++ (48 ∷ 98 ∷ (ds ++ rest))) ≡ Some (ds, rest)
digits_whole gap ds rest hg hds s = rw (run_whole blank gap (48 ∷ 98 ∷ (ds ++ rest)) hg refl) (run_whole bit ds rest hds s)

get_whole : (gap n rest : List ℕ) → Gap gap → Number n → get_after (get_tail gap n rest) ≡ Some (get n, rest)
get_whole gap n rest hg hn = rw (number_whole gap n (59 ∷ rest) hg hn refl) refl

write_whole : (gap n gap' ds rest : List ℕ) → Gap gap → Number n → Gap gap' → Bits ds → write_after (write_tail gap n gap' ds rest) ≡ Some (write n ds, rest)
write_whole gap n gap' ds rest hg hn hg' hds =
    rw (number_whole gap n (gap' ++ (48 ∷ 98 ∷ (ds ++ (59 ∷ rest)))) hg hn (gap_stops gap' _ hg'), digits_whole gap' ds (59 ∷ rest) hg' hds refl) refl

stated_whole : (s : Spoken) (said rest : List ℕ) → Spells s said → stated (said ++ rest) ≡ Some (s, rest)
stated_whole (write n ds) said rest (gap, gap', hg, hg', hn, hds, e) =
    let flat : said ++ rest ≡ codes "iWrite" ++ write_tail gap n gap' ds rest = rw e (simp append_assoc) in
    ap stated flat ∙ rw (write_whole gap n gap' ds rest hg hn hg' hds) refl
stated_whole (get n) said rest (gap, hg, hn, e) =
    let flat : said ++ rest ≡ codes "iGet" ++ get_tail gap n rest = rw e (simp append_assoc) in
    ap stated flat ∙ rw (get_whole gap n rest hg hn) refl
stated_whole apply said rest e = rw e refl

-- every statement begins with `i`
spells_first : (s : Spoken) (said : List ℕ) → Spells s said → (tail : List ℕ) × (said ≡ 105 ∷ tail)
spells_first (write n ds) said (gap, gap', hg, hg', hn, hds, e) = (_, e)
spells_first (get n) said (gap, hg, hn, e) = (_, e)
spells_first apply said e = (_, e)

-- ---- a text
-- what `next_statement` answers, by its bytes
abbrev Answer : Type 0
Answer = Result (Option (Spoken × List ℕ)) Refusal

begun_says : (bs : List ℕ) (s : Spoken × List ℕ) → stated bs ≡ Some s → begun bs ≡ Ok (Some s)
begun_says [] s e = absurd (cc e)
begun_says (b ∷ bs) s e = rw e refl

abbrev Begins : List ℕ → Answer → Type 0
Begins bs (Ok None) = bs ≡ []
Begins bs (Ok (Some s)) = Found bs s
Begins bs (Err e) = e ≡ NotStatement

begins_by : (bs : List ℕ) (o : Option (Spoken × List ℕ)) → IfSome o (Found bs) → Begins bs (ok_or (option_map Some o) NotStatement)
begins_by bs None h = refl
begins_by bs (Some s) h = h

begins : (bs : List ℕ) → Begins bs (begun bs)
begins [] = refl
begins (b ∷ bs) = begins_by (b ∷ bs) (stated (b ∷ bs)) (stated_found (b ∷ bs))

reading_ended : (text : List ℕ) → Blanks text → reading text ≡ Ok None
reading_ended text h = ap begun (ap unblanked (sym (append-nil text)) ∙ behind_whole blank text [] h tt)

-- the only statement that a text can begin with
reading_says : (text : List ℕ) (s : Spoken) (rest : List ℕ) → Says text s rest → reading text ≡ Ok (Some (s, rest))
reading_says text s rest (before, said, hb, hs, e) =
    let stops : Stops blank (said ++ rest) = rw (spells_first s said hs).1 refl in
    ap reading (e ∙ append_assoc before said rest) ∙ ap begun (behind_whole blank before (said ++ rest) hb stops) ∙ begun_says (said ++ rest) (s, rest) (stated_whole s said rest hs)

abbrev Reads : List ℕ → Answer → Type 0
Reads text (Ok None) = Blanks text
Reads text (Ok (Some s)) = Says text s.0 s.1
Reads text (Err e) = (e ≡ NotStatement) × Unsaid text

reads : (text : List ℕ) (r : Answer) → reading text ≡ r → Reads text r
reads text (Ok None) e =
    let cut : text ≡ take_while blank text ++ [] = front_behind blank text ∙ ap (λ l. take_while blank text ++ l) (subst (Begins (unblanked text)) e (begins (unblanked text))) in
    subst (AllOf blank) (sym (cut ∙ append-nil _)) (front_all blank text)
reads text (Ok (Some s)) e =
    let f = subst (Begins (unblanked text)) e (begins (unblanked text)) in
    (take_while blank text, f.0, front_all blank text, f.1, front_behind blank text ∙ ap (λ l. take_while blank text ++ l) f.2 ∙ sym (append_assoc _ f.0 s.1))
reads text (Err x) e = (
  subst (Begins (unblanked text)) e (begins (unblanked text)),
  (λ h. cc (reading_ended text h), λ s rest h. cc (reading_says text s rest h)),
)

says_shorter : (text : List ℕ) (s : Spoken) (rest : List ℕ) → Says text s rest → length rest < length text
says_shorter text s rest (before, said, hb, hs, e) =
    omega (arith, simp length-append at (ap length e), ap length (spells_first s said hs).1)

pub heard_gives : (text : List ℕ) (r : Result (Option Next) Refusal) → heard r ≡ reading text → Gives text r
heard_gives text (Ok None) e = reads text (Ok None) (sym e)
heard_gives text (Ok (Some n)) e = reads text (Ok (Some (told n))) (sym e)
heard_gives text (Err x) e = reads text (Err x) (sym e)

pub heard_shorter : (text : List ℕ) (r : Result (Option Next) Refusal) → heard r ≡ reading text → Shorter text r
heard_shorter text (Ok None) e = tt
heard_shorter text (Ok (Some n)) e = says_shorter text _ _ (heard_gives text (Ok (Some n)) e)
heard_shorter text (Err x) e = tt
