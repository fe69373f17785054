-- What the contracts of `powers` speak of, beside `definitions`.
--
-- Powers        the power of four that the table answers, and what the table holds
-- Signs         signs as numbers
pub mod Powers
pub mod Signs
