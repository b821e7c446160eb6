pub mod Kinds
pub mod Shop
pub mod ShopRises
