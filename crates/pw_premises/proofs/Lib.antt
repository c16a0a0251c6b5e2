pub mod PremiseWords
pub mod NumberLists
pub mod NumberWords
pub mod NarrowWords
