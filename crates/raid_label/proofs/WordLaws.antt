-- Numbers and bytes of a label.
use Rattle.std.proofs.Common.{◌≡◌, ◌∙◌, ap, ℕ, zero, suc, ◌+◌, ◌*◌, ◌<◌, ◌≤◌, ◌==◌, true, List, [], ◌∷◌, ◌++◌, take, length, get_or, replicate, refl, sym, arith, append_assoc}
use Rattle.std.specs.List.{list_all}
use Rattle.std.specs.Int.{w32, to_le_bytes}
use Rattle.std.proofs.lemmas.List.{take_all, length-replicate}
use Rattle.raid_label.specs.declared.label.Label.{Label}
use Rattle.raid_label.specs.Bytes.{bytes_of}
use Rattle.raid_label.specs.Steps.{words_of, magic, bytes_of_words}

-- labels whose fields are the same are the same
pub same_label : {version_x version_y serial_x serial_y counter_x counter_y column_x column_y columns_x columns_y unit_x unit_y rows_x rows_y level_x level_y clean_x clean_y b_x b_y k_x k_y r_x r_y lambda_x lambda_y filling_x filling_y done_x done_y : ℕ} {seats_x seats_y : List ℕ}
    → version_x ≡ version_y → serial_x ≡ serial_y → counter_x ≡ counter_y → column_x ≡ column_y → columns_x ≡ columns_y → unit_x ≡ unit_y → rows_x ≡ rows_y → level_x ≡ level_y → clean_x ≡ clean_y → b_x ≡ b_y → k_x ≡ k_y → r_x ≡ r_y → lambda_x ≡ lambda_y → seats_x ≡ seats_y → filling_x ≡ filling_y → done_x ≡ done_y
    → (let x : Label = record { version = version_x; serial = serial_x; counter = counter_x; column = column_x; columns = columns_x; unit = unit_x; rows = rows_x; level = level_x; clean = clean_x; b = b_x; k = k_x; r = r_x; lambda = lambda_x; seats = seats_x; filling = filling_x; done = done_x } in let y : Label = record { version = version_y; serial = serial_y; counter = counter_y; column = column_y; columns = columns_y; unit = unit_y; rows = rows_y; level = level_y; clean = clean_y; b = b_y; k = k_y; r = r_y; lambda = lambda_y; seats = seats_y; filling = filling_y; done = done_y } in x ≡ y)
same_label {version_x = version_x} {version_y = version_y} {serial_x = serial_x} {serial_y = serial_y} {counter_x = counter_x} {counter_y = counter_y} {column_x = column_x} {column_y = column_y} {columns_x = columns_x} {columns_y = columns_y} {unit_x = unit_x} {unit_y = unit_y} {rows_x = rows_x} {rows_y = rows_y} {level_x = level_x} {level_y = level_y} {clean_x = clean_x} {clean_y = clean_y} {b_x = b_x} {b_y = b_y} {k_x = k_x} {k_y = k_y} {r_x = r_x} {r_y = r_y} {lambda_x = lambda_x} {lambda_y = lambda_y} {filling_x = filling_x} {filling_y = filling_y} {done_x = done_x} {done_y = done_y} {seats_x = seats_x} {seats_y = seats_y} e0 e1 e2 e3 e4 e5 e6 e7 e8 e9 e10 e11 e12 e13 e14 e15 =
    let step_0 : ℕ → Label = λ v. record { version = v; serial = serial_x; counter = counter_x; column = column_x; columns = columns_x; unit = unit_x; rows = rows_x; level = level_x; clean = clean_x; b = b_x; k = k_x; r = r_x; lambda = lambda_x; seats = seats_x; filling = filling_x; done = done_x } in
    let step_1 : ℕ → Label = λ v. record { version = version_y; serial = v; counter = counter_x; column = column_x; columns = columns_x; unit = unit_x; rows = rows_x; level = level_x; clean = clean_x; b = b_x; k = k_x; r = r_x; lambda = lambda_x; seats = seats_x; filling = filling_x; done = done_x } in
    let step_2 : ℕ → Label = λ v. record { version = version_y; serial = serial_y; counter = v; column = column_x; columns = columns_x; unit = unit_x; rows = rows_x; level = level_x; clean = clean_x; b = b_x; k = k_x; r = r_x; lambda = lambda_x; seats = seats_x; filling = filling_x; done = done_x } in
    let step_3 : ℕ → Label = λ v. record { version = version_y; serial = serial_y; counter = counter_y; column = v; columns = columns_x; unit = unit_x; rows = rows_x; level = level_x; clean = clean_x; b = b_x; k = k_x; r = r_x; lambda = lambda_x; seats = seats_x; filling = filling_x; done = done_x } in
    let step_4 : ℕ → Label = λ v. record { version = version_y; serial = serial_y; counter = counter_y; column = column_y; columns = v; unit = unit_x; rows = rows_x; level = level_x; clean = clean_x; b = b_x; k = k_x; r = r_x; lambda = lambda_x; seats = seats_x; filling = filling_x; done = done_x } in
    let step_5 : ℕ → Label = λ v. record { version = version_y; serial = serial_y; counter = counter_y; column = column_y; columns = columns_y; unit = v; rows = rows_x; level = level_x; clean = clean_x; b = b_x; k = k_x; r = r_x; lambda = lambda_x; seats = seats_x; filling = filling_x; done = done_x } in
    let step_6 : ℕ → Label = λ v. record { version = version_y; serial = serial_y; counter = counter_y; column = column_y; columns = columns_y; unit = unit_y; rows = v; level = level_x; clean = clean_x; b = b_x; k = k_x; r = r_x; lambda = lambda_x; seats = seats_x; filling = filling_x; done = done_x } in
    let step_7 : ℕ → Label = λ v. record { version = version_y; serial = serial_y; counter = counter_y; column = column_y; columns = columns_y; unit = unit_y; rows = rows_y; level = v; clean = clean_x; b = b_x; k = k_x; r = r_x; lambda = lambda_x; seats = seats_x; filling = filling_x; done = done_x } in
    let step_8 : ℕ → Label = λ v. record { version = version_y; serial = serial_y; counter = counter_y; column = column_y; columns = columns_y; unit = unit_y; rows = rows_y; level = level_y; clean = v; b = b_x; k = k_x; r = r_x; lambda = lambda_x; seats = seats_x; filling = filling_x; done = done_x } in
    let step_9 : ℕ → Label = λ v. record { version = version_y; serial = serial_y; counter = counter_y; column = column_y; columns = columns_y; unit = unit_y; rows = rows_y; level = level_y; clean = clean_y; b = v; k = k_x; r = r_x; lambda = lambda_x; seats = seats_x; filling = filling_x; done = done_x } in
    let step_10 : ℕ → Label = λ v. record { version = version_y; serial = serial_y; counter = counter_y; column = column_y; columns = columns_y; unit = unit_y; rows = rows_y; level = level_y; clean = clean_y; b = b_y; k = v; r = r_x; lambda = lambda_x; seats = seats_x; filling = filling_x; done = done_x } in
    let step_11 : ℕ → Label = λ v. record { version = version_y; serial = serial_y; counter = counter_y; column = column_y; columns = columns_y; unit = unit_y; rows = rows_y; level = level_y; clean = clean_y; b = b_y; k = k_y; r = v; lambda = lambda_x; seats = seats_x; filling = filling_x; done = done_x } in
    let step_12 : ℕ → Label = λ v. record { version = version_y; serial = serial_y; counter = counter_y; column = column_y; columns = columns_y; unit = unit_y; rows = rows_y; level = level_y; clean = clean_y; b = b_y; k = k_y; r = r_y; lambda = v; seats = seats_x; filling = filling_x; done = done_x } in
    let step_13 : List ℕ → Label = λ v. record { version = version_y; serial = serial_y; counter = counter_y; column = column_y; columns = columns_y; unit = unit_y; rows = rows_y; level = level_y; clean = clean_y; b = b_y; k = k_y; r = r_y; lambda = lambda_y; seats = v; filling = filling_x; done = done_x } in
    let step_14 : ℕ → Label = λ v. record { version = version_y; serial = serial_y; counter = counter_y; column = column_y; columns = columns_y; unit = unit_y; rows = rows_y; level = level_y; clean = clean_y; b = b_y; k = k_y; r = r_y; lambda = lambda_y; seats = seats_y; filling = v; done = done_x } in
    let step_15 : ℕ → Label = λ v. record { version = version_y; serial = serial_y; counter = counter_y; column = column_y; columns = columns_y; unit = unit_y; rows = rows_y; level = level_y; clean = clean_y; b = b_y; k = k_y; r = r_y; lambda = lambda_y; seats = seats_y; filling = filling_y; done = v } in
    ap step_0 e0 ∙ (ap step_1 e1 ∙ (ap step_2 e2 ∙ (ap step_3 e3 ∙ (ap step_4 e4 ∙ (ap step_5 e5 ∙ (ap step_6 e6 ∙ (ap step_7 e7 ∙ (ap step_8 e8 ∙ (ap step_9 e9 ∙ (ap step_10 e10 ∙ (ap step_11 e11 ∙ (ap step_12 e12 ∙ (ap step_13 e13 ∙ (ap step_14 e14 ∙ (ap step_15 e15)))))))))))))))

-- one number more
pub bytes_of_words-take : (ns : List ℕ) (i : ℕ) → i < length ns → bytes_of_words (take (i + 1) ns) ≡ bytes_of_words (take i ns) ++ to_le_bytes w32 (get_or ns i 0)
bytes_of_words-take [] i h = absurd (omega arith)
bytes_of_words-take (n ∷ ns) zero h = refl
bytes_of_words-take (n ∷ ns) (suc i) h =
    let more : suc i + 1 ≡ suc (i + 1) = omega arith in
    rw more (ap (λ (l : List ℕ). to_le_bytes w32 n ++ l) (bytes_of_words-take ns i (omega arith)))

-- two numbers, and what stands behind them
behind_two : (f g z : List ℕ) → (f ++ (g ++ [])) ++ z ≡ f ++ (g ++ z)
behind_two f g z = append_assoc f (g ++ []) z ∙ ap (λ (t : List ℕ). f ++ t) (append_assoc g [] z)

-- zeros
pub all_zero : (n : ℕ) → list_all (λ b. b == 0) (replicate n 0) ≡ true
all_zero zero = refl
all_zero (suc n) = all_zero n

-- the sector that the writing of a label leaves
pub written : (l : Label) (words one two three four five zeros : List ℕ) → words ≡ words_of l → zeros ≡ replicate 412 0 → length five ≡ 512
    → take 60 one ≡ magic ++ bytes_of_words (take 13 words) → take 92 two ≡ take 60 one ++ l.seats
    → take 96 three ≡ take 92 two ++ to_le_bytes w32 l.filling → take 100 four ≡ take 96 three ++ to_le_bytes w32 l.done
    → take (100 + length zeros) five ≡ take 100 four ++ zeros
    → five ≡ bytes_of l
unfolding bytes_of
written l words one two three four five zeros all none long a b c d e =
    let w = bytes_of_words (words_of l) in
    let f = to_le_bytes w32 l.filling in
    let g = to_le_bytes w32 l.done in
    let z : List ℕ = replicate 412 0 in
    let end : length five ≤ 100 + length zeros = omega (arith, long, ap length none, length-replicate {A = ℕ} 412 0) in
    let front : take 60 one ≡ magic ++ w = a ∙ ap (λ (ws : List ℕ). magic ++ bytes_of_words (take 13 ws)) all in
    let seats : take 92 two ≡ (magic ++ w) ++ l.seats = b ∙ ap (λ (t : List ℕ). t ++ l.seats) front in
    let filling : take 96 three ≡ ((magic ++ w) ++ l.seats) ++ f = c ∙ ap (λ (t : List ℕ). t ++ f) seats in
    let done : take 100 four ≡ (((magic ++ w) ++ l.seats) ++ f) ++ g = d ∙ ap (λ (t : List ℕ). t ++ g) filling in
    sym (take_all (100 + length zeros) five end) ∙ (e ∙ (ap (λ (t : List ℕ). t ++ zeros) done
    ∙ (ap (λ (y : List ℕ). ((((magic ++ w) ++ l.seats) ++ f) ++ g) ++ y) none
    ∙ (append_assoc (((magic ++ w) ++ l.seats) ++ f) g z
    ∙ (append_assoc ((magic ++ w) ++ l.seats) f (g ++ z)
    ∙ (append_assoc (magic ++ w) l.seats (f ++ (g ++ z))
    ∙ (append_assoc magic w (l.seats ++ (f ++ (g ++ z)))
    ∙ ap (λ (t : List ℕ). magic ++ (w ++ (l.seats ++ t))) (sym (behind_two f g z)))))))))
