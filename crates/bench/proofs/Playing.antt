-- A list, line by line.
use Rattle.std.proofs.Common.{◌≡◌, ℕ, ◌+◌, ◌<◌, eqb, List, [], ◌∷◌, ◌++◌, length, ℤ, Ok, Err, Option, Result, sym, refl, ap, ◌∙◌, inl, inr, arith}
use Rattle.std.specs.List.{flat_map}
use Rattle.std.proofs.lemmas.List.{append_assoc}
use Rattle.std.proofs.lemmas.Bool.{cond-false, ne_eqb}
use Rattle.text.specs.declared.fault.Cause.TheVariants.{FieldCount}
use Rattle.text.specs.declared.fault.Fault.{Fault}
use Rattle.text.specs.declared.lines.Lines.{Lines}
use Rattle.text.specs.LineWalk.{lines_left}
use Rattle.text.specs.Results.{fault}
use Rattle.text.proofs.Cuts.{some_piece}
use Rattle.text.proofs.ResultLaws.{never_ok, same_err}
use Rattle.kit.specs.Meaning.{Meaning}
use Rattle.draft.specs.Drawings.{Drawing}
use Rattle.machine.specs.Machine.{State}
use Rattle.tick.specs.declared.played.Played.{Played}
use Rattle.bench.specs.Lists.{Listed, Shown, shows, ends, refused_by, after_tick, line_played, ticks_of, shown_line, refusal_line, printed}
use Rattle.bench.specs.Steps.{Taken, NextTick}
use Rattle.bench.proofs.Cutting.{line_length}

-- what a tick shows comes before what follows
pub printed_more : {V : Type 0} (numbered : V → ℤ) (x : Shown V) (l : Listed V) → printed numbered (shows x l) ≡ shown_line numbered x ++ printed numbered l
printed_more numbered x l = append_assoc (shown_line numbered x) (flat_map (shown_line numbered) l.shown) (refusal_line l.refusal)

module _ {V : Type 0} (valued : ℤ → Option V) (m : Meaning V) (d : Drawing) where
  -- no line is left
  pub none_left : (s : State V) (k : ℕ) → ticks_of valued m d s k ([] ∷ []) ≡ ends
  unfolding ticks_of
  none_left s k = refl

  last_cut : (s : State V) (k : ℕ) (rest : List ℕ) → (length rest ≡ 0 → ⊥) → ticks_of valued m d s k (rest ∷ []) ≡ refused_by (fault FieldCount k 0)
  unfolding ticks_of
  last_cut s k rest some = cond-false (eqb (length rest) 0) ends (refused_by (fault FieldCount k 0)) (ne_eqb (length rest) 0 some)

  one_line : (s : State V) (k : ℕ) (line : List ℕ) (ps : List (List ℕ)) → 0 < length ps → ticks_of valued m d s k (line ∷ ps) ≡ after_tick (line_played valued m d s k line).answer (line_played valued m d s k line).state.wires (ticks_of valued m d (line_played valued m d s k line).state (k + 1) ps)
  unfolding ticks_of
  one_line s k line [] some = absurd (omega (arith, some))
  one_line s k line (p ∷ ps) some = refl

  module _ (s s' : State V) (l l' : Lines) where
    -- a line that was played
    taken_on : (r : Result Played Fault) → Taken valued m d s l r s' l' → ticks_of valued m d s (l.taken + 1) (lines_left l) ≡ after_tick r s'.wires (ticks_of valued m d s' (l'.taken + 1) (lines_left l'))
    taken_on r t =
        let k = l.taken + 1 in
        ap (ticks_of valued m d s k) t.taken ∙ one_line s k t.line (lines_left l') (some_piece 10 l'.rest.now)
        ∙ sym (λ i. after_tick (t.answer i) (t.state i).wires (ticks_of valued m d (t.state i) (t.number i + 1) (lines_left l')))

    pub next_shows : (p : Played) → NextTick valued m d s l (Ok p) s' l' → ticks_of valued m d s (l.taken + 1) (lines_left l) ≡ shows (record { closed = p.closed; rounds = p.settled.rounds; wires = s'.wires }) (ticks_of valued m d s' (l'.taken + 1) (lines_left l'))
    next_shows p (inl t) = taken_on (Ok p) t
    next_shows p (inr c) = never_ok (sym c.answer)

    pub next_shorter : (p : Played) → NextTick valued m d s l (Ok p) s' l' → length l'.rest.now < length l.rest.now
    next_shorter p (inl t) = omega (arith, line_length l.rest.now t.line l'.rest.now t.taken)
    next_shorter p (inr c) = never_ok (sym c.answer)

    pub next_refused : (f : Fault) → (length l.rest.now ≡ 0 → ⊥) → NextTick valued m d s l (Err f) s' l' → ticks_of valued m d s (l.taken + 1) (lines_left l) ≡ refused_by f
    next_refused f some (inl t) = taken_on (Err f) t
    next_refused f some (inr c) = ap (ticks_of valued m d s (l.taken + 1)) c.last ∙ last_cut s (l.taken + 1) l.rest.now some ∙ ap refused_by (sym (same_err c.answer))
