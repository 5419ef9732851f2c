-- What is put is fine, since it stands in what is.
use Rattle.std.proofs.Common.{rules, ◌≡◌, ◌++◌, true, ltb, length, sym, ap, subst, ◌∙◌}
use Rattle.std.proofs.lemmas.List.{append-nil}
use Rattle.amqp_values.specs.declared.value.Value.{the_lemmas}
use Rattle.amqp_values.specs.declared.value.Value.{Value}
use Rattle.amqp_values.specs.Spelling.{Told, told, map_told, list_told, array_told, IsFine, IsPairFine}
use Rattle.amqp_values.proofs.Telling.{told_map, told_list, told_array, told_void, told_bit}
use Rattle.amqp_values.proofs.Insides.{map_fine, list_fine, array_fine}
use Rattle.amqp_values.proofs.write.+writing.Goals as goal

pub put_list-put_value-requires : goal.put_list-put_value-requires
put_list-put_value-requires t c =
    (search (rules, the_lemmas), subst IsFine (sym c.item-item.is) (list_fine c.args.items.now c.requires c.loop-item.item-index c.item-item.result c.loop-item-test.true))

pub put_array-put_value-requires : goal.put_array-put_value-requires
put_array-put_value-requires t c =
    (search (rules, the_lemmas), subst IsFine (sym c.item-item.is) (array_fine c.args.code c.args.items.now c.requires c.loop-item.item-index c.item-item.result c.loop-item-test.true))

pub put_map-put_sized-requires : goal.put_map-put_sized-requires
put_map-put_sized-requires t c =
    let here : IsPairFine c.pair-item.result = subst IsPairFine (sym c.pair-item.is) (map_fine c.args.pairs.now c.requires c.loop-pair.pair-index c.pair-item.result c.loop-pair-test.true) in
    ap (λ key. ltb (length key) 256) c.as_slice.ensures.value ∙ here.0

pub put_map-put_value-requires : goal.put_map-put_value-requires
put_map-put_value-requires t c =
    let here : IsPairFine c.pair-item.result = subst IsPairFine (sym c.pair-item.is) (map_fine c.args.pairs.now c.requires c.loop-pair.pair-index c.pair-item.result c.loop-pair-test.true) in
    (search (rules, the_lemmas), here.1)

pub put_value-put_map-requires : goal.put_value-put_map-requires
put_value-put_map-requires t c =
    let fine : (map_told c.in-Map.pairs).fine ≡ true = ap (λ (t : Told). t.fine) (sym (told_map c.in-Map.pairs)) ∙ ap (λ (x : Value). (told x).fine) (sym c.in-Map.is) ∙ c.requires in
    (search (rules, the_lemmas), subst (λ pairs. (map_told pairs).fine ≡ true) (sym c.as_slice-in-Map.ensures) fine)

pub put_value-put_list-requires : goal.put_value-put_list-requires
put_value-put_list-requires t c =
    let fine : (list_told c.in-List.items).fine ≡ true = ap (λ (t : Told). t.fine) (sym (told_list c.in-List.items)) ∙ ap (λ (x : Value). (told x).fine) (sym c.in-List.is) ∙ c.requires in
    (search (rules, the_lemmas), subst (λ items. (list_told items).fine ≡ true) (sym c.as_slice-in-List.ensures) fine)

pub put_value-put_array-requires : goal.put_value-put_array-requires
put_value-put_array-requires t c =
    let fine : (array_told c.in-Array.code c.in-Array.items).fine ≡ true =
    ap (λ (t : Told). t.fine) (sym (told_array c.in-Array.code c.in-Array.items)) ∙ ap (λ (x : Value). (told x).fine) (sym c.in-Array.is) ∙ c.requires in
    (search (rules, the_lemmas), subst (λ items. (array_told c.in-Array.code items).fine ≡ true) (sym c.as_slice-in-Array.ensures) fine)

pub put_value-returns-in-Void : goal.put_value-returns-in-Void
put_value-returns-in-Void t c =
    let out = c.args.out.now.items in
    sym (ap (λ (x : Value). out ++ (told x).octets) c.in-Void.is ∙ ap (λ (t : Told). out ++ t.octets) told_void ∙ append-nil out)

pub put_value-returns-in-Bit : goal.put_value-returns-in-Bit
put_value-returns-in-Bit t c =
    let out = c.args.out.now.items in
    sym (ap (λ (x : Value). out ++ (told x).octets) c.in-Bit.is ∙ ap (λ (t : Told). out ++ t.octets) told_bit ∙ append-nil out)
