-- Reading objects that carry a payload: the members that were found, and those that were not.
use Rattle.std.proofs.Common.{◌≡◌, ℕ, List, codes, true, Option, Some, None, refl, sym, ap, subst}
use Rattle.bidi_tree.specs.Node as tree
use Rattle.bidi_tree.specs.Node.{Node, Members, get_member, AreAscending}
use Rattle.bidi_shape.specs.Term.{Term, required, Openness, extensible, exactly, map_of, Rows, no_more, row}
use Rattle.bidi_shape.specs.Fits.{Fits, RowsFit, no_row, OthersFit, without}
use Rattle.bidi_shape.specs.Parts.{distinct, PartFits}
use Rattle.bidi_shape.specs.Value.{ShapeOf}
use Rattle.bidi_shape.specs.ValueLaws.{others_of}
use Rattle.bidi_shape.specs.Table.{unfolded, table_read}
use Rattle.bidi_shape.specs.WordLaws.{Words, word_fits, word_one}
use Rattle.bidi_shape.specs.declared.ext.Ext.{Ext}
use Rattle.bidi_shape.proofs.FitsLemmas.{exactly_kind, exactly_inside, map_inside, RowFits, row_inside, row_fits}
use Rattle.bidi_methods.specs.Payload.{PayloadOf}
use Rattle.bidi_messages.specs.Envelope.{envelope_names, rows_of, parts_of, envelope_term, envelope_tree, EnvelopeIsWell, envelope_inside}

module _ {X D K : Type 0} (name : List ℕ) (s : ShapeOf X) (w : Words K) (d : PayloadOf D K) where
  -- ---- found

  pub envelope_read : (x : X) (v : D) (e : Ext) (ms : Members) (t : Node) → distinct (envelope_names name) ≡ true → tree.map ms ≡ t → AreAscending ms
      → get_member name ms ≡ Some (s.tree_of x) → s.well x → get_member (codes "method") ms ≡ Some (tree.text (w.text_of (d.kind v)))
      → get_member (codes "params") ms ≡ Some (d.tree_of v) → d.well v
      → others_of e ≡ without (envelope_names name) ms → OthersFit extensible (others_of e) → (envelope_tree name s w d x v e ≡ t) × EnvelopeIsWell name s w d x v e
  envelope_read x v e ms t once is sorted head well_head method params well_payload rest may =
      let rows = rows_of name s w d (d.kind v) in
      let p = table_read (envelope_names name) rows extensible (parts_of name s w d x v) ms (others_of e) t
      (record { names = refl; once = once }) is (head, (method, (params, tt))) sorted rest may in
      (p.0, record { head = well_head; payload = well_payload; others = p.1 })

  -- ---- not found

  module _ (ρ : Term) (says : unfolded ρ ≡ envelope_term name s w d) where
    -- a tree that is no map
    pub no_map : (t : Node) → ((rs : Rows) (o : Openness) → Fits t (map_of rs o) → ⊥) → Fits t ρ → ⊥
    no_map t bad fit = let p = envelope_inside name s w d ρ says t fit in bad (rows_of name s w d p.0) extensible p.1

    rows_inside : (t : Node) (ms : Members)
        → tree.map ms ≡ t → Fits t ρ → (k : K) × (RowsFit ms (rows_of name s w d k) × OthersFit extensible (without (envelope_names name) ms))
    rows_inside t ms is fit =
        let p = envelope_inside name s w d ρ says t fit in
        (p.0, map_inside (subst (λ u. Fits u (map_of (rows_of name s w d p.0) extensible)) (sym is) p.1))

    -- a map whose first member or whose others do not fit
    pub no_head : (t : Node) (ms : Members) → tree.map ms ≡ t
        → (RowsFit ms (row name required s.rule no_more) → OthersFit extensible (without (envelope_names name) ms) → ⊥) → Fits t ρ → ⊥
    no_head t ms is bad fit =
        let p = rows_inside t ms is fit in
        bad (row_fits ms name required s.rule no_more (row_inside p.1.0).0 (no_row ms)) p.1.1

    as_word : (o : Option Node) (k : K) → RowFits required (exactly (w.text_of k)) o → PartFits required w.rule o
    as_word (Some u) k f = subst (λ x. Fits x w.rule) (sym (exactly_kind f)) (word_fits w k)
    as_word None k f = f

    -- a map whose method is none
    pub no_method : (t : Node) (ms : Members) → tree.map ms ≡ t → (PartFits required w.rule (get_member (codes "method") ms) → ⊥) → Fits t ρ → ⊥
    no_method t ms is bad fit =
        let p = rows_inside t ms is fit in
        bad (as_word (get_member (codes "method") ms) p.0 (row_inside (row_inside p.1.0).1).0)

    as_part : (τ : Term) (o : Option Node) → RowFits required τ o → PartFits required τ o
    as_part τ (Some u) f = f
    as_part τ None f = f

    -- a map whose params do not fit the rule of its method
    pub no_params : (t : Node) (ms : Members) (k : K) → tree.map ms ≡ t → get_member (codes "method") ms ≡ Some (tree.text (w.text_of k))
        → (PartFits required (d.rule k) (get_member (codes "params") ms) → ⊥) → Fits t ρ → ⊥
    no_params t ms k is method bad fit =
        let p = rows_inside t ms is fit in
        let after = (row_inside p.1.0).1 in
        let text = exactly_inside (subst (RowFits required (exactly (w.text_of p.0))) method (row_inside after).0) in
        let same = word_one w p.0 k (ap tree.text (sym text)) in
        bad (subst (λ i. PartFits required (d.rule i) (get_member (codes "params") ms)) same
        (as_part (d.rule p.0) (get_member (codes "params") ms) (row_inside (row_inside after).1).0))
