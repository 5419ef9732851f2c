-- Values of one variant are equal where their parts are, and lists where all of their parts are.
use Rattle.std.proofs.Common.{map, ◌∙◌, sym, bytes_eq, arith}
use Rattle.header_match.specs.Equality.{equal, pairwise, passes, pair_passes, equal_to, pair_test}
use Rattle.header_match.proofs.Both.{both_fixed, both_text8, both_text16, both_bin, both_maps, both_lists, both_arrays, both_struct32, both_bare}
use Rattle.header_match.proofs.Pairwise.{one_apart, one_next, same_code, other_code, ap2, not_key, not_value, key_and_value}
use Rattle.header_match.proofs.equality.+sames.Goals as goal

pub same-returns-then-code-code_b : goal.same-returns-then-code-code_b
same-returns-then-code-code_b t c = c.eq.ensures ∙ (same_code c.in-Fixed.code c.in-Fixed-b.code_b (bytes_eq c.in-Fixed.octets c.in-Fixed-b.octets_b) c.if-code-code_b.true ∙ both_fixed c.args.a.now c.args.b.now c.in-Fixed.code c.in-Fixed-b.code_b c.in-Fixed.octets c.in-Fixed-b.octets_b c.in-Fixed.is c.in-Fixed-b.is)

pub same-returns-else-code-code_b : goal.same-returns-else-code-code_b
same-returns-else-code-code_b t c = other_code c.in-Fixed.code c.in-Fixed-b.code_b (bytes_eq c.in-Fixed.octets c.in-Fixed-b.octets_b) c.if-code-code_b.false ∙ both_fixed c.args.a.now c.args.b.now c.in-Fixed.code c.in-Fixed-b.code_b c.in-Fixed.octets c.in-Fixed-b.octets_b c.in-Fixed.is c.in-Fixed-b.is

pub same-returns-then-code-code_b-2 : goal.same-returns-then-code-code_b-2
same-returns-then-code-code_b-2 t c = c.eq-then-code-code_b-2.ensures ∙ (same_code c.in-Bin.code c.in-Bin-b.code_b (bytes_eq c.in-Bin.octets c.in-Bin-b.octets_b) c.if-code-code_b-2.true ∙ both_bin c.args.a.now c.args.b.now c.in-Bin.code c.in-Bin-b.code_b c.in-Bin.octets c.in-Bin-b.octets_b c.in-Bin.is c.in-Bin-b.is)

pub same-returns-else-code-code_b-2 : goal.same-returns-else-code-code_b-2
same-returns-else-code-code_b-2 t c = other_code c.in-Bin.code c.in-Bin-b.code_b (bytes_eq c.in-Bin.octets c.in-Bin-b.octets_b) c.if-code-code_b-2.false ∙ both_bin c.args.a.now c.args.b.now c.in-Bin.code c.in-Bin-b.code_b c.in-Bin.octets c.in-Bin-b.octets_b c.in-Bin.is c.in-Bin-b.is

pub same-returns-in-Text8-b : goal.same-returns-in-Text8-b
same-returns-in-Text8-b t c = c.eq-in-Text8-b.ensures ∙ both_text8 c.args.a.now c.args.b.now c.in-Text8.text c.in-Text8-b.text_b c.in-Text8.is c.in-Text8-b.is

pub same-returns-in-Text16-b : goal.same-returns-in-Text16-b
same-returns-in-Text16-b t c = c.eq-in-Text16-b.ensures ∙ both_text16 c.args.a.now c.args.b.now c.in-Text16.text c.in-Text16-b.text_b c.in-Text16.is c.in-Text16-b.is

pub same-returns-in-Struct32-b : goal.same-returns-in-Struct32-b
same-returns-in-Struct32-b t c = c.eq-in-Struct32-b.ensures ∙ both_struct32 c.args.a.now c.args.b.now c.in-Struct32.octets c.in-Struct32-b.octets_b c.in-Struct32.is c.in-Struct32-b.is

pub same-returns-in-Bare-b : goal.same-returns-in-Bare-b
same-returns-in-Bare-b t c = both_bare c.args.a.now c.args.b.now c.in-Bare.code c.in-Bare-b.code_b c.in-Bare.is c.in-Bare-b.is

pub same-returns-in-Map-b : goal.same-returns-in-Map-b
same-returns-in-Map-b t c = c.same_pairs.ensures ∙ (ap2 (λ p q. pairwise pair_passes (map pair_test p) q) c.as_slice.ensures c.as_slice-in-Map-b.ensures ∙ both_maps c.args.a.now c.args.b.now c.in-Map.pairs c.in-Map-b.pairs_b c.in-Map.is c.in-Map-b.is)

pub same-returns-in-List-b : goal.same-returns-in-List-b
same-returns-in-List-b t c = c.same_items.ensures ∙ (ap2 (λ p q. pairwise passes (map equal_to p) q) c.as_slice-in-List-b.ensures c.as_slice-in-List-b-2.ensures ∙ both_lists c.args.a.now c.args.b.now c.in-List.items c.in-List-b.items_b c.in-List.is c.in-List-b.is)

pub same-returns-then-code-code_b-3 : goal.same-returns-then-code-code_b-3
same-returns-then-code-code_b-3 t c = c.same_items-then-code-code_b-3.ensures ∙ (ap2 (λ p q. pairwise passes (map equal_to p) q) c.as_slice-then-code-code_b-3.ensures c.as_slice-then-code-code_b-3-2.ensures ∙ (same_code c.in-Array.code c.in-Array-b.code_b (pairwise passes (map equal_to c.in-Array.items) c.in-Array-b.items_b) c.if-code-code_b-3.true ∙ both_arrays c.args.a.now c.args.b.now c.in-Array.code c.in-Array-b.code_b c.in-Array.items c.in-Array-b.items_b c.in-Array.is c.in-Array-b.is))

pub same-returns-else-code-code_b-3 : goal.same-returns-else-code-code_b-3
same-returns-else-code-code_b-3 t c = other_code c.in-Array.code c.in-Array-b.code_b (pairwise passes (map equal_to c.in-Array.items) c.in-Array-b.items_b) c.if-code-code_b-3.false ∙ both_arrays c.args.a.now c.args.b.now c.in-Array.code c.in-Array-b.code_b c.in-Array.items c.in-Array-b.items_b c.in-Array.is c.in-Array-b.is

pub same_items-returns-then-not-same : goal.same_items-returns-then-not-same
same_items-returns-then-not-same t c =
    sym (one_apart equal_to passes c.args.a.now c.args.b.now c.loop-i.i c.index-a-i.result c.index-b-i.result c.loop-i-test.true (omega (arith, c.loop-i-test.true, c.if-a-b.false)) c.index-a-i.is c.index-b-i.is (sym c.same.ensures ∙ c.if-not-same.true))

pub same_items-loop-i-preserved : goal.same_items-loop-i-preserved
same_items-loop-i-preserved t c =
    one_next equal_to passes c.args.a.now c.args.b.now c.loop-i.i c.index-a-i.result c.index-b-i.result c.loop-i-test.true (omega (arith, c.loop-i-test.true, c.if-a-b.false)) c.index-a-i.is c.index-b-i.is (sym c.same.ensures ∙ c.if-not-same.false) c.loop-i.invariant

pub same_pairs-returns-then-ne : goal.same_pairs-returns-then-ne
same_pairs-returns-then-ne t c =
    sym (one_apart pair_test pair_passes c.args.a.now c.args.b.now c.loop-i.i c.index-a-i.result c.index-b-i.result c.loop-i-test.true (omega (arith, c.loop-i-test.true, c.if-a-b.false)) c.index-a-i.is c.index-b-i.is (not_key (bytes_eq c.index-a-i.result.key c.index-b-i.result.key) (equal c.index-a-i.result.value c.index-b-i.result.value) (sym c.ne.ensures ∙ c.if-ne.true)))

pub same_pairs-returns-then-not-same : goal.same_pairs-returns-then-not-same
same_pairs-returns-then-not-same t c =
    sym (one_apart pair_test pair_passes c.args.a.now c.args.b.now c.loop-i.i c.index-a-i.result c.index-b-i.result c.loop-i-test.true (omega (arith, c.loop-i-test.true, c.if-a-b.false)) c.index-a-i.is c.index-b-i.is (not_value (bytes_eq c.index-a-i.result.key c.index-b-i.result.key) (equal c.index-a-i.result.value c.index-b-i.result.value) (sym c.same.ensures ∙ c.if-not-same.true)))

pub same_pairs-loop-i-preserved : goal.same_pairs-loop-i-preserved
same_pairs-loop-i-preserved t c =
    one_next pair_test pair_passes c.args.a.now c.args.b.now c.loop-i.i c.index-a-i.result c.index-b-i.result c.loop-i-test.true (omega (arith, c.loop-i-test.true, c.if-a-b.false)) c.index-a-i.is c.index-b-i.is (key_and_value (bytes_eq c.index-a-i.result.key c.index-b-i.result.key) (equal c.index-a-i.result.value c.index-b-i.result.value) (sym c.ne.ensures ∙ c.if-ne.false) (sym c.same.ensures ∙ c.if-not-same.false)) c.loop-i.invariant
